use Rattle.wasm_tool.proofs.Common.{◌≡◌, take, string_bytes, listing_of}
use Rattle.wasm_tool.proofs.listing.lines.Given as goal

-- The text is the lines of the sections so far.
abbrev pub invariant-loop-section : goal.invariant-loop-section
invariant-loop-section g l = string_bytes l.text ≡ listing_of (take l.section-index l.sections)
