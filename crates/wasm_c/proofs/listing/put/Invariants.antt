use Rattle.wasm_base.proofs.Words.{◌≡◌, length, map, take, drop}
use Rattle.wasm_c.specs.Listing.{section_of}
use Rattle.wasm_c.proofs.listing.put.Given as goal

-- The first `i` sections are written, and the remaining ones are unchanged.
abbrev pub invariant-loop-i : goal.invariant-loop-i
invariant-loop-i l = record {
  places : length l.out ≡ length l.initial.out;
  front : take l.i l.out ≡ map section_of (take l.i l.lines);
  back : drop l.i l.out ≡ drop l.i l.initial.out;
}
