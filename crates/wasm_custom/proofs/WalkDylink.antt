-- This file proves how the subsections of a dynamic library's section are walked over.
use Rattle.wasm_base.proofs.Words.{◌≡◌, ℕ, List, [], ◌∷◌, refl, true, Grammar, is_admitted, padded_of, byte, name, any_bytes, mapped, vec, size_prefixed, Decodes, IsOther}
use Rattle.wasm_base.specs.Walks.{TakesBytes, Walks}
use Rattle.wasm_base.proofs.WalkLaws.{mapped_walks}
use Rattle.wasm_custom.specs.{needs, export_flags, import_flags, dylink_tags, other_dylink, dylink_item}
use Rattle.wasm_custom.specs.Dylink.{Memory, Needed, ExportFlags, ImportFlags, RuntimePath, OtherDylink}
use Rattle.wasm_custom.proofs.WiderLaws.{both_walks, other_walks}

-- The id was put, then the content.
module _ {E : Type 0} {seen : E → List ℕ → Type 0} (w : Grammar) {b : ℕ} {bytes rest last : List ℕ} {old middle new : E} (h : Decodes byte (padded_of w) bytes b rest) where
  pub memory_walk : b ≡ 1 → TakesBytes seen (b ∷ []) old middle → Walks seen w (size_prefixed needs) rest last middle new → Walks seen w dylink_item bytes last old new
  memory_walk e a m = both_walks dylink_tags dylink_tags other_dylink 1 (mapped Memory (size_prefixed needs)) refl refl w h e a (mapped_walks Memory m)

  pub needed_walk : b ≡ 2 → TakesBytes seen (b ∷ []) old middle → Walks seen w (size_prefixed (vec name)) rest last middle new → Walks seen w dylink_item bytes last old new
  needed_walk e a m = both_walks dylink_tags dylink_tags other_dylink 2 (mapped Needed (size_prefixed (vec name))) refl refl w h e a (mapped_walks Needed m)

  pub exports_walk : b ≡ 3 → TakesBytes seen (b ∷ []) old middle → Walks seen w (size_prefixed (vec export_flags)) rest last middle new → Walks seen w dylink_item bytes last old new
  exports_walk e a m = both_walks dylink_tags dylink_tags other_dylink 3 (mapped ExportFlags (size_prefixed (vec export_flags))) refl refl w h e a (mapped_walks ExportFlags m)

  pub imports_walk : b ≡ 4 → TakesBytes seen (b ∷ []) old middle → Walks seen w (size_prefixed (vec import_flags)) rest last middle new → Walks seen w dylink_item bytes last old new
  imports_walk e a m = both_walks dylink_tags dylink_tags other_dylink 4 (mapped ImportFlags (size_prefixed (vec import_flags))) refl refl w h e a (mapped_walks ImportFlags m)

  pub paths_walk : b ≡ 5 → TakesBytes seen (b ∷ []) old middle → Walks seen w (size_prefixed (vec name)) rest last middle new → Walks seen w dylink_item bytes last old new
  paths_walk e a m = both_walks dylink_tags dylink_tags other_dylink 5 (mapped RuntimePath (size_prefixed (vec name))) refl refl w h e a (mapped_walks RuntimePath m)

  pub others_walk : IsOther dylink_tags b → is_admitted w ≡ true → TakesBytes seen (b ∷ []) old middle → Walks seen w (size_prefixed any_bytes) rest last middle new → Walks seen w dylink_item bytes last old new
  others_walk o f a m = other_walks dylink_tags dylink_tags other_dylink o w f h a (mapped_walks (OtherDylink b) m)
