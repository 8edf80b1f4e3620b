-- Written by tools/answers.
use Rattle.read_back.proofs.Common.{refl, codes, ascii, size_prefixed, new_features, adds_feature, encodes_entries, features_payload, Used, Disallowed}
use Rattle.read_back.proofs.custom.write_features.Goals as goal

pub returns : goal.returns
returns g c =
    let s1 = adds_feature (new_features c.new-section.ensures) (Used, codes "atomics") c.in_ok-feature.ensures.ok c.in_ok-feature.ensures.was_encodable (ascii refl) in
    let s2 = adds_feature s1 (Disallowed, c.args.feature.now) c.in_ok-feature-2.ensures.ok c.in_ok-feature-2.ensures.was_encodable c.utf8.feature in
    encodes_entries (size_prefixed features_payload) _ _ c.encode.ensures.appends c.encode.ensures.read s2
