-- This file proves that the encodings of expressions, bodies and code sections encode them.
use Rattle.wasm_base.proofs.Words.{refl, subst, minimal, any_bytes, such, size_prefixed, u32, pair, vec, HasMinimalEncodings, HasEncodableSize, size_prefixed_encoding, vec_encoding, val_type}
use Rattle.wasm_base.proofs.Words.{size_prefixed_encodes, members_encodes, vec_encodes}
use Rattle.wasm_insn.proofs.Words.{Plain, instruction, plain_encoding, table, plain_encodes}
use Rattle.wasm_code.specs.{IsNoEnd, expression, body, IsRun, run_encoding, locals_encoding, raw_code, code_section, IsNormal, IsNormalInside, code_encoding, IsEncodablePlainExpression}
use Rattle.wasm_code.specs.{plain_expression_encoding, IsEncodableBody, body_encoding, IsEncodableSizedBody, body_size_prefixed_encoding, IsEncodableRawCode, raw_code_encoding, IsEncodableCodeSection}
use Rattle.wasm_code.specs.{code_section_encoding}
use Rattle.wasm_code.proofs.ExpressionLaws.{expression_unambiguous, expression_encodes}
use Rattle.wasm_code.proofs.BodyLaws.{body_whole, size_prefixed_body_unambiguous, run_encodes}
use Rattle.wasm_code.proofs.CodeLaws.{raw_code_unambiguous, code_section_unambiguous}

-- The encoding of a well-formed instruction in normal form encodes it.
same_encodes : (i : Plain) → IsNormal i → instruction table minimal (plain_encoding i) i
same_encodes i h = subst (λ j. instruction table minimal (plain_encoding i) j) h.same (plain_encodes table i h.plain)

pub expression-encodings : HasMinimalEncodings expression IsEncodablePlainExpression plain_expression_encoding
expression-encodings = record {
  encodes = λ is h. expression_encodes minimal (code_encoding is) is (members_encodes (such IsNoEnd (instruction table)) IsNormalInside plain_encoding (λ i inside. (same_encodes i inside.0, inside.1)) is h);
}

pub body-encodings : HasMinimalEncodings body IsEncodableBody body_encoding
body-encodings = record {
  encodes = λ x h. (
    (x.runs, x.code),
    refl,
    record {
      front = locals_encoding x.runs;
      back = code_encoding x.code;
      joined = refl;
      first = vec_encodes (pair u32 val_type) IsRun run_encoding run_encodes x.runs h.runs;
      second = members_encodes (instruction table) IsNormal plain_encoding same_encodes x.code h.code;
    },
  );
}

pub size_prefixed-body-encodings : HasMinimalEncodings (size_prefixed body) IsEncodableSizedBody body_size_prefixed_encoding
size_prefixed-body-encodings = record { encodes = λ x h. size_prefixed_encodes body (body_encoding x) x h.size (body-encodings.encodes x h.body) }

pub raw_code-encodings : HasMinimalEncodings raw_code IsEncodableRawCode raw_code_encoding
raw_code-encodings = record {
  encodes = λ raw h. size_prefixed_encodes (vec (size_prefixed any_bytes)) (vec_encoding size_prefixed_encoding raw) raw h.size (vec_encodes (size_prefixed any_bytes) HasEncodableSize size_prefixed_encoding (λ bytes encodable. size_prefixed_encodes any_bytes bytes bytes encodable refl) raw h.members);
}

pub code_section-encodings : HasMinimalEncodings code_section IsEncodableCodeSection code_section_encoding
code_section-encodings = record {
  encodes = λ bodies h. size_prefixed_encodes (vec (size_prefixed body)) (vec_encoding body_size_prefixed_encoding bodies) bodies h.size (vec_encodes (size_prefixed body) IsEncodableSizedBody body_size_prefixed_encoding size_prefixed-body-encodings.encodes bodies h.members);
}

pub ruleset expressions = (expression_unambiguous, expression-encodings)

pub ruleset bodies = (body_whole, size_prefixed_body_unambiguous, raw_code_unambiguous, code_section_unambiguous, body-encodings, size_prefixed-body-encodings, raw_code-encodings, code_section-encodings)
