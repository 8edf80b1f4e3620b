use Rattle.wasm_tool.proofs.Common.{◌≡◌, ◌∷◌, ◌++◌, option_map, counted_words, indices_of}
use Rattle.wasm_tool.proofs.numbers.indices.Given as goal

-- The numbers so far are those of the words before the iterator's.
abbrev pub invariant-loop-word : goal.invariant-loop-word
invariant-loop-word g l = record {
  version : l.word-iterator.version ≡ l.fn.words.version;
  numbers : indices_of (l.first ∷ counted_words l.fn.words.version l.fn.words.rest.now) ≡ option_map (λ ns. l.numbers.items ++ ns) (indices_of (counted_words l.word-iterator.version l.word-iterator.rest.now));
}
