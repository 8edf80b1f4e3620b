mod Parts
mod Verdict
