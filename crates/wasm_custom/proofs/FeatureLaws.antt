-- This file proves that target features are unambiguous, and how they are decoded and minimized.
use Rattle.wasm_base.proofs.Words.{Mode, ◌≡◌, ◌≢◌, ◌==◌, ℕ, List, [], ◌∷◌, ◌++◌, true, refl, if◌then◌else◌, ItemLaws, name, coded, byte, fixed, minimal, Unambiguous, Decodes, Rejects}
use Rattle.wasm_base.proofs.Words.{size_prefixed_encoding, name_unambiguous, coded_unambiguous, pair_unambiguous, ascii, pair_encodes, name_encodes, SectionLaws, code_decodes, code_none, code_unknown}
use Rattle.wasm_base.proofs.Words.{AppendsMinimal, both_grammars, encoding_appended}
use Rattle.wasm_custom.specs.{CustomLayoutLaws, prefix_code, Feature, feature_encoding, IsFeature, feature, features_name, feature_items, features_payload}
use Rattle.wasm_custom.specs.declared.target_features.FeaturePrefix.{FeaturePrefix}
use Rattle.wasm_custom.specs.declared.target_features.FeaturePrefix.TheVariants.{Used, Disallowed, Required}
use Rattle.wasm_custom.proofs.EntriesLaws.{counted_layout, entries_laws}

-- ---- prefixes

decode : ℕ → FeaturePrefix
decode b = if b == 0x2B then Used else (if b == 0x2D then Disallowed else Required)

back : (p : FeaturePrefix) → decode (prefix_code p) ≡ p
unfolding decode
back Used = refl
back Disallowed = refl
back Required = refl

pub prefix_unambiguous : Unambiguous (coded prefix_code)
prefix_unambiguous = coded_unambiguous prefix_code decode back

pub prefix_decodes : {m : Mode} (bytes rest : List ℕ) (b : ℕ) (p : FeaturePrefix) → Decodes byte m bytes b rest → b ≡ prefix_code p → Decodes (coded prefix_code) m bytes p rest
prefix_decodes = code_decodes prefix_code

pub prefix_none : {m : Mode} (bytes : List ℕ) → Rejects byte m bytes → Rejects (coded prefix_code) m bytes
prefix_none = code_none prefix_code

pub prefix_unknown : {m : Mode} (bytes rest : List ℕ) (b : ℕ) → Decodes byte m bytes b rest → b ≢ 0x2B → b ≢ 0x2D → b ≢ 0x3D → Rejects (coded prefix_code) m bytes
prefix_unknown bytes rest b h used disallowed required = code_unknown prefix_code bytes rest b h other
  where
    other : (p : FeaturePrefix) → b ≢ prefix_code p
    other Used e = used e
    other Disallowed e = disallowed e
    other Required e = required e

pub ruleset prefix_steps = (prefix_decodes, prefix_unknown)

pub prefix_appended : (p : FeaturePrefix) (old new : List ℕ) → new ≡ old ++ prefix_code p ∷ [] → AppendsMinimal both_grammars (coded prefix_code) p old new
prefix_appended p old new e = encoding_appended (coded prefix_code) p (prefix_code p ∷ []) old new (λ w q s h. refl) e

-- ---- features

pub feature_unambiguous : Unambiguous feature
feature_unambiguous = pair_unambiguous prefix_unambiguous name_unambiguous

feature_encodes : (f : Feature) → IsFeature f → feature minimal (feature_encoding f) f
feature_encodes f plain = pair_encodes (coded prefix_code) name (prefix_code f.0 ∷ []) (size_prefixed_encoding f.1) f.0 f.1 refl (name_encodes f.1 plain.0 plain.1)

pub feature_laws : ItemLaws feature_items
feature_laws = record { unique = feature_unambiguous; encodes = λ f plain encodable. feature_encodes f plain }

pub feature_layout : CustomLayoutLaws feature features_name [] (fixed [] (tt {0})) true
feature_layout = counted_layout (ascii {bytes = features_name} refl)

pub features_section : SectionLaws feature_items features_payload
features_section = entries_laws feature_laws feature_layout (λ given plain. plain) (λ given plain. plain)
