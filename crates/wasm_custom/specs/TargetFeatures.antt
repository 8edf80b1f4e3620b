-- This file defines the target features section, its encoding and its format. Tool conventions,
-- Linking, Target Features Section.
use Rattle.std.specs.Prelude.{ℕ, List, [], ◌∷◌, ◌++◌, codes}
use Rattle.std.specs.Borrow.{Bor}
use Rattle.wasm_base.specs.Words.{Kind, ContainsItems, Format, name, coded, pair, IsEncodableName, size_prefixed_encoding, SectionDecoding}
use Rattle.wasm_custom.specs.Customs.{decoding_as}
use Rattle.wasm_custom.specs.Entries.{counted_payload}
use Rattle.wasm_custom.specs.declared.target_features.FeaturePrefix.{FeaturePrefix}
use Rattle.wasm_custom.specs.declared.target_features.FeaturePrefix.TheVariants.{Used, Disallowed, Required}

-- The byte of a prefix: the character `+`, `-` or `=`.
abbrev pub prefix_code : FeaturePrefix → ℕ
prefix_code Used = 0x2B
prefix_code Disallowed = 0x2D
prefix_code Required = 0x3D

-- A feature: its prefix and its name.
abbrev pub Feature : Type 0
Feature = FeaturePrefix × List ℕ

-- The encoding of a feature: the byte of its prefix, then its name.
abbrev pub feature_encoding : Feature → List ℕ
feature_encoding f = prefix_code f.0 ∷ [] ++ size_prefixed_encoding f.1

-- The name of the feature is UTF-8 of at most 2^32 - 1 bytes.
abbrev pub IsFeature : Feature → Type 0
IsFeature f = IsEncodableName f.1

-- A feature: the byte of a prefix, and a name.
abbrev pub feature : Format Feature
feature = pair (coded prefix_code) name

-- The kind of features.
abbrev pub feature_items : Kind Feature Feature
feature_items = record { encoding = feature_encoding; IsWellFormed = IsFeature; IsWellFormedPadded = IsFeature; normal_form = λ feature. feature; format = feature }

-- The section name `target_features`.
abbrev pub features_name : List ℕ
features_name = codes "target_features"

-- ---- the target features section

-- The pieces encode these features.
abbrev pub ContainsFeatures : List (List ℕ) → List Feature → Type 0
ContainsFeatures = ContainsItems feature_items

-- The payload of a target features section: its name, and a vector of features.
abbrev pub features_payload : Format (List Feature)
features_payload = counted_payload features_name feature

-- The target features section that decodes to these features.
abbrev pub features_decoding : List Feature → SectionDecoding
features_decoding features = decoding_as features_payload features

-- ---- decoded features

-- The view of a decoded feature.
abbrev pub feature_view : FeaturePrefix × Bor (List ℕ) → Feature
feature_view f = (f.0, f.1.now)
