use Rattle.wasm_tool.proofs.Common.{◌≡◌, length, rest_of, words_of}
use Rattle.wasm_tool.proofs.words.Words.cut.Given as goal

-- Only empty words have been skipped.
abbrev pub invariant-loop-word : goal.invariant-loop-word
invariant-loop-word l = record {
  version : l.self.version ≡ l.initial.self.version;
  words : words_of l.self.rest.now ≡ words_of l.initial.self.rest.now;
  rest : rest_of l.self.rest.now ≡ rest_of l.initial.self.rest.now;
}

abbrev pub decreases-loop-word : goal.decreases-loop-word
decreases-loop-word l = length l.self.rest.now
