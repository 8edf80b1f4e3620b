use Rattle.wasm_custom.proofs.Common.{◌∷◌, ◌++◌, ap, arith, unsigned_encoding, given_name, kind_code, indexed, named_encoding_of, name_encodable, indexed_given}
use Rattle.wasm_custom.proofs.symbols.CountedList+SymbolMembers+S.indexed.Goals as goal

pub add_record-requires : goal.add_record-requires
add_record-requires g c encodable = record {
  member = indexed c.args.kind c.args.flags c.args.index (given_name c.args.name);
  is = ap (λ s. kind_code c.args.kind ∷ (unsigned_encoding c.args.flags ++ (unsigned_encoding c.args.index ++ s))) (named_encoding_of c.args.name);
  encodable = indexed_given c.args.kind c.args.flags c.args.index (given_name c.args.name) c.requires (omega (arith, c.ranges.flags.fits), omega (arith, c.ranges.index.fits), name_encodable c.args.name c.given_name.ensures encodable.2);
}
