use Rattle.read_back.proofs.Common.{[], ◌∷◌, arith, rules, All-nil, new_types, same_types, counted, listed_array, adds_shape, adds_type, encodes_types, IsField, single, array, structure, byte_field}
use Rattle.read_back.proofs.Common.{open_bytes}
use Rattle.read_back.proofs.declared.write_types.Goals as goal

pub returns : goal.returns
returns g c =
    encodes_types c.encode.ensures.appends c.encode.ensures.read
    (same_types
    (adds_type {old = c.ty-3.result.section.now}
    (same_types
    (same_types
    (adds_shape {old = c.ty-2.result.section.now}
    (same_types (same_types (adds_shape {old = c.ty.result.section.now} (same_types (new_types c.new-section.ensures) c.ty.ensures.same) (array byte_field) c.in_ok-array.ensures.ok tt) (search rules)) c.ty-2.ensures.same)
    (structure (byte_field ∷ [])) (listed_array c.in_ok-struct_.ensures (byte_field ∷ []) (λ it b. b.0)) (counted IsField (byte_field ∷ []) (tt, tt) (omega arith)))
    (search rules))
    c.ty-3.ensures.same)
    (single open_bytes) c.in_ok-subtype.ensures.ok
    (record { supertypes = record { count = omega arith; members = All-nil _ }; composite = record { describes = tt; descriptor = tt; shape = tt } }))
    (search rules))
