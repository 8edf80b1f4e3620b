-- This file re-exports the names of std that the lemmas of this crate use.
pub use Rattle.std.proofs.Common.{Bool, Err, IfErr, IsErrAnd, IsUtf8, List, None, Ok, Option, Result, Some, [], add-one, ap, append-nil, append_assoc, ap₂, arith, cond, drop, eqb, false, get_or, inl}
pub use Rattle.std.proofs.Common.{inr, le_refl, length, length-append, length-take, lit<, ltb, map, neg_ℤ, negsuc, pos, refl, rules, slice_index, slice_index_or, slice_set, subst, suc, sym, take}
pub use Rattle.std.proofs.Common.{to_z-of_z, true, vec_capacity, vec_len, zero, ℕ, ℤ, ◌%◌, ◌&&◌, ◌*ℤ◌, ◌*◌, ◌++◌, ◌+ℤ◌, ◌+◌, ◌-ℤ◌, ◌-◌, ◌/◌, ◌<ℤ◌, ◌<◌, ◌^◌, ◌∙◌, ◌∷◌, ◌≡◌, ◌≢◌, ◌≤ℤ◌, ◌≤◌, ◌⊎◌}
pub use Rattle.std.proofs.Math.Facts.{to_z-neg, to_z_pos}
pub use Rattle.std.proofs.Math.Nat.{mul-add, mul-le-mul_left, mul_assoc, pow-le-pow_right, pow-suc}
pub use Rattle.std.proofs.Math.Seq.{drop-append-add, drop-append_seam, take-append_seam}
pub use Rattle.std.proofs.lemmas.Bool.{and_parts, cases_eq, cases_lt, eqb-false, eqb-true, le-ltb, lt-ltb, ltb-true, ne_eqb}
pub use Rattle.std.proofs.lemmas.Grind.{common_steps}
pub use Rattle.std.proofs.lemmas.Int.{ints}
pub use Rattle.std.proofs.lemmas.Iterator.{YieldsList-from_slice, items_from_drains}
pub use Rattle.std.proofs.lemmas.Iterator.Consumers.{YieldsList-from_copied}
pub use Rattle.std.proofs.lemmas.List.{append_cancel_left, drop_at, flat_map_more, get_or_read, length-map, length-take-le, map-append, map-id, take-append-drop, take_all, take_at, take_more}
pub use Rattle.std.proofs.lemmas.List.Elements.{All-cons, All-get_or, All-head, All-more, All-nil, All-tail}
pub use Rattle.std.proofs.lemmas.Nat.{pow-add}
pub use Rattle.std.proofs.lemmas.Option.{slice_get_past}
pub use Rattle.std.proofs.lemmas.Str.{IsUtf8-from_ascii}
pub use Rattle.std.specs.Array.Iter.{array_into_iter_items, array_steps}
pub use Rattle.std.specs.Int.{cast_signed, from_le_bytes, w128, w16, w32, w64}
pub use Rattle.std.specs.Iterator.{Drains, IsFinite, Yields}
pub use Rattle.std.specs.Iterator.Adapters.{copied_source, copied_steps}
pub use Rattle.std.specs.List.{All, AllByRecursion, AllZip, flat_map, slice_get}
pub use Rattle.std.specs.Prelude.{IfSome, IsSome, OnOk}
pub use Rattle.std.specs.Slice.Iter.{iter_rest, iter_steps}
pub use Rattle.std.specs.Vec.Iter.{into_iter_len, into_iter_steps}
pub use Rattle.std.specs.declared.array.IntoIter.{IntoIter}
pub use Rattle.std.specs.declared.iter.Copied.{Copied}
pub use Rattle.std.specs.declared.slice.Iter.{Iter}
pub use Rattle.std.specs.declared.vec.Vec.{Vec}
