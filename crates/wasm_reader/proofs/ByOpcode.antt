-- Written by tools/instructions from tools/instructions.tsv: do not edit.
-- This file proves that the functions of `by_opcode` have an instruction of each opcode.
use Rattle.wasm_base.proofs.Words.{◌≡◌, ◌≢◌, ℕ, [], ◌∷◌, ◌<◌, ◌≤◌, Option, Some, None, get_or, refl}
use Rattle.std.specs.Prelude.{IfSome, IfNone}
use Rattle.wasm_insn.proofs.Words.{table}
use Rattle.wasm_insn.specs.declared.op.Op.TheVariants.{Byte, Prefixed}
use Rattle.wasm_insn.specs.declared.op.Shape.TheVariants as shapes
use Rattle.wasm_insn.specs.declared.numeric.Numeric.{Numeric}
use Rattle.wasm_insn.specs.declared.aggregate.Aggregate.{Aggregate}
use Rattle.wasm_insn.specs.declared.prefixed_numeric.PrefixedNumeric.{PrefixedNumeric}
use Rattle.wasm_insn.specs.declared.vector.Vector.{Vector}
use Rattle.wasm_insn.specs.Plain.{shape_of}
use Rattle.wasm_insn.specs.Numeric.{numeric_number}
use Rattle.wasm_insn.specs.Aggregate.{aggregate_number}
use Rattle.wasm_insn.specs.PrefixedNumeric.{prefixed_numeric_number}
use Rattle.wasm_insn.specs.Vector.{vector_number}
use Rattle.wasm_reader.specs.declared.by_opcode.TheConstants.{NUMERIC, AGGREGATE, PREFIXED_NUMERIC, VECTOR}
use Rattle.wasm_reader.proofs.OpcodesOfShapes.{keys, byte_of, prefix_of, number_after, listed, none_of, none_at, item_is, item_none, beyond}

-- ---- instructions without immediates

pub numeric_some : (n : ℕ) (d : Option Numeric) → n < 197 → IfSome (get_or NUMERIC n d) (λ i. numeric_number i ≡ n)
numeric_some n d l = item_is numeric_number NUMERIC n d refl l

pub numeric_none : (n : ℕ) (d : Option Numeric) → n < 197 → IfNone (get_or NUMERIC n d) (get_or NUMERIC n None ≡ None)
numeric_none n d l = item_none NUMERIC n d l (λ e. e)

pub numeric_beyond : (n : ℕ) → 197 ≤ n → get_or NUMERIC n None ≡ None
numeric_beyond n l = beyond NUMERIC n l

pub aggregate_some : (n : ℕ) (d : Option Aggregate) → n < 31 → IfSome (get_or AGGREGATE n d) (λ i. aggregate_number i ≡ n)
aggregate_some n d l = item_is aggregate_number AGGREGATE n d refl l

aggregate_absent : (n : ℕ) → get_or AGGREGATE n None ≡ None → shape_of table (Prefixed 0xFB n) ≢ Some shapes.Nothing
unfolding table
aggregate_absent n none e = none_at AGGREGATE [] (keys (number_after 0xFB) shapes.Nothing table) n refl tt none (listed (number_after 0xFB) shapes.Nothing table (Prefixed 0xFB n) n refl e)

pub aggregate_none : (n : ℕ) (d : Option Aggregate) → n < 31 → IfNone (get_or AGGREGATE n d) (shape_of table (Prefixed 0xFB n) ≢ Some shapes.Nothing)
aggregate_none n d l = item_none AGGREGATE n d l (aggregate_absent n)

pub aggregate_beyond : (n : ℕ) → 31 ≤ n → shape_of table (Prefixed 0xFB n) ≢ Some shapes.Nothing
aggregate_beyond n l = aggregate_absent n (beyond AGGREGATE n l)

pub prefixed_numeric_some : (n : ℕ) (d : Option PrefixedNumeric) → n < 23 → IfSome (get_or PREFIXED_NUMERIC n d) (λ i. prefixed_numeric_number i ≡ n)
prefixed_numeric_some n d l = item_is prefixed_numeric_number PREFIXED_NUMERIC n d refl l

prefixed_numeric_absent : (n : ℕ) → get_or PREFIXED_NUMERIC n None ≡ None → shape_of table (Prefixed 0xFC n) ≢ Some shapes.Nothing
unfolding table
prefixed_numeric_absent n none e = none_at PREFIXED_NUMERIC [] (keys (number_after 0xFC) shapes.Nothing table) n refl tt none (listed (number_after 0xFC) shapes.Nothing table (Prefixed 0xFC n) n refl e)

pub prefixed_numeric_none : (n : ℕ) (d : Option PrefixedNumeric) → n < 23 → IfNone (get_or PREFIXED_NUMERIC n d) (shape_of table (Prefixed 0xFC n) ≢ Some shapes.Nothing)
prefixed_numeric_none n d l = item_none PREFIXED_NUMERIC n d l (prefixed_numeric_absent n)

pub prefixed_numeric_beyond : (n : ℕ) → 23 ≤ n → shape_of table (Prefixed 0xFC n) ≢ Some shapes.Nothing
prefixed_numeric_beyond n l = prefixed_numeric_absent n (beyond PREFIXED_NUMERIC n l)

pub vector_some : (n : ℕ) (d : Option Vector) → n < 276 → IfSome (get_or VECTOR n d) (λ i. vector_number i ≡ n)
vector_some n d l = item_is vector_number VECTOR n d refl l

vector_absent : (n : ℕ) → get_or VECTOR n None ≡ None → shape_of table (Prefixed 0xFD n) ≢ Some shapes.Nothing
unfolding table
vector_absent n none e = none_at VECTOR [] (keys (number_after 0xFD) shapes.Nothing table) n refl tt none (listed (number_after 0xFD) shapes.Nothing table (Prefixed 0xFD n) n refl e)

pub vector_none : (n : ℕ) (d : Option Vector) → n < 276 → IfNone (get_or VECTOR n d) (shape_of table (Prefixed 0xFD n) ≢ Some shapes.Nothing)
vector_none n d l = item_none VECTOR n d l (vector_absent n)

pub vector_beyond : (n : ℕ) → 276 ≤ n → shape_of table (Prefixed 0xFD n) ≢ Some shapes.Nothing
vector_beyond n l = vector_absent n (beyond VECTOR n l)

-- ---- no immediates

pub byte_nothing : (b : ℕ) → b ≢ 0x00 → b ≢ 0x01 → b ≢ 0x05 → b ≢ 0x0A → b ≢ 0x0B → b ≢ 0x0F → b ≢ 0x19 → b ≢ 0x1A → b ≢ 0x1B → b ≢ 0xD1 → b ≢ 0xD3 → b ≢ 0xD4 → get_or NUMERIC b None ≡ None → shape_of table (Byte b) ≢ Some shapes.Nothing
unfolding table
byte_nothing b n1 n2 n3 n4 n5 n6 n7 n8 n9 n10 n11 n12 none e = none_at NUMERIC (0x00 ∷ 0x01 ∷ 0x05 ∷ 0x0A ∷ 0x0B ∷ 0x0F ∷ 0x19 ∷ 0x1A ∷ 0x1B ∷ 0xD1 ∷ 0xD3 ∷ 0xD4 ∷ []) (keys byte_of shapes.Nothing table) b refl (n1, (n2, (n3, (n4, (n5, (n6, (n7, (n8, (n9, (n10, (n11, (n12, tt)))))))))))) none (listed byte_of shapes.Nothing table (Byte b) b refl e)

pub after_fe_nothing : (n : ℕ) → n ≢ 0x04 → n ≢ 0x72 → shape_of table (Prefixed 0xFE n) ≢ Some shapes.Nothing
unfolding table
after_fe_nothing n n1 n2 e = none_of (0x04 ∷ 0x72 ∷ []) (keys (number_after 0xFE) shapes.Nothing table) n refl (n1, (n2, tt)) (listed (number_after 0xFE) shapes.Nothing table (Prefixed 0xFE n) n refl e)

pub other_nothing : (p n : ℕ) → p ≢ 0xFB → p ≢ 0xFC → p ≢ 0xFD → p ≢ 0xFE → shape_of table (Prefixed p n) ≢ Some shapes.Nothing
unfolding table
other_nothing p n n1 n2 n3 n4 e = none_of (0xFB ∷ 0xFC ∷ 0xFD ∷ 0xFE ∷ []) (keys prefix_of shapes.Nothing table) p refl (n1, (n2, (n3, (n4, tt)))) (listed prefix_of shapes.Nothing table (Prefixed p n) p refl e)

-- ---- a number

pub byte_number : (b : ℕ) → b ≢ 0x07 → b ≢ 0x08 → b ≢ 0x09 → b ≢ 0x0C → b ≢ 0x0D → b ≢ 0x10 → b ≢ 0x12 → b ≢ 0x14 → b ≢ 0x15 → b ≢ 0x18 → b ≢ 0x20 → b ≢ 0x21 → b ≢ 0x22 → b ≢ 0x23 → b ≢ 0x24 → b ≢ 0x25 → b ≢ 0x26 → b ≢ 0x3F → b ≢ 0x40 → b ≢ 0xD2 → b ≢ 0xD5 → b ≢ 0xD6 → b ≢ 0xE0 → b ≢ 0xE2 → shape_of table (Byte b) ≢ Some shapes.U
unfolding table
byte_number b n1 n2 n3 n4 n5 n6 n7 n8 n9 n10 n11 n12 n13 n14 n15 n16 n17 n18 n19 n20 n21 n22 n23 n24 e = none_of (0x07 ∷ 0x08 ∷ 0x09 ∷ 0x0C ∷ 0x0D ∷ 0x10 ∷ 0x12 ∷ 0x14 ∷ 0x15 ∷ 0x18 ∷ 0x20 ∷ 0x21 ∷ 0x22 ∷ 0x23 ∷ 0x24 ∷ 0x25 ∷ 0x26 ∷ 0x3F ∷ 0x40 ∷ 0xD2 ∷ 0xD5 ∷ 0xD6 ∷ 0xE0 ∷ 0xE2 ∷ []) (keys byte_of shapes.U table) b refl (n1, (n2, (n3, (n4, (n5, (n6, (n7, (n8, (n9, (n10, (n11, (n12, (n13, (n14, (n15, (n16, (n17, (n18, (n19, (n20, (n21, (n22, (n23, (n24, tt)))))))))))))))))))))))) (listed byte_of shapes.U table (Byte b) b refl e)

pub after_fb_number : (n : ℕ) → n ≢ 0 → n ≢ 1 → n ≢ 6 → n ≢ 7 → n ≢ 11 → n ≢ 12 → n ≢ 13 → n ≢ 14 → n ≢ 16 → n ≢ 32 → n ≢ 33 → n ≢ 34 → shape_of table (Prefixed 0xFB n) ≢ Some shapes.U
unfolding table
after_fb_number n n1 n2 n3 n4 n5 n6 n7 n8 n9 n10 n11 n12 e = none_of (0 ∷ 1 ∷ 6 ∷ 7 ∷ 11 ∷ 12 ∷ 13 ∷ 14 ∷ 16 ∷ 32 ∷ 33 ∷ 34 ∷ []) (keys (number_after 0xFB) shapes.U table) n refl (n1, (n2, (n3, (n4, (n5, (n6, (n7, (n8, (n9, (n10, (n11, (n12, tt)))))))))))) (listed (number_after 0xFB) shapes.U table (Prefixed 0xFB n) n refl e)

pub after_fc_number : (n : ℕ) → n ≢ 9 → n ≢ 11 → n ≢ 13 → n ≢ 15 → n ≢ 16 → n ≢ 17 → n ≢ 18 → shape_of table (Prefixed 0xFC n) ≢ Some shapes.U
unfolding table
after_fc_number n n1 n2 n3 n4 n5 n6 n7 e = none_of (9 ∷ 11 ∷ 13 ∷ 15 ∷ 16 ∷ 17 ∷ 18 ∷ []) (keys (number_after 0xFC) shapes.U table) n refl (n1, (n2, (n3, (n4, (n5, (n6, (n7, tt))))))) (listed (number_after 0xFC) shapes.U table (Prefixed 0xFC n) n refl e)

pub other_number : (p n : ℕ) → p ≢ 0xFB → p ≢ 0xFC → shape_of table (Prefixed p n) ≢ Some shapes.U
unfolding table
other_number p n n1 n2 e = none_of (0xFB ∷ 0xFC ∷ []) (keys prefix_of shapes.U table) p refl (n1, (n2, tt)) (listed prefix_of shapes.U table (Prefixed p n) p refl e)

-- ---- two numbers

pub byte_numbers : (b : ℕ) → b ≢ 0x11 → b ≢ 0x13 → b ≢ 0xE1 → b ≢ 0xE6 → shape_of table (Byte b) ≢ Some shapes.Uu
unfolding table
byte_numbers b n1 n2 n3 n4 e = none_of (0x11 ∷ 0x13 ∷ 0xE1 ∷ 0xE6 ∷ []) (keys byte_of shapes.Uu table) b refl (n1, (n2, (n3, (n4, tt)))) (listed byte_of shapes.Uu table (Byte b) b refl e)

pub after_fb_numbers : (n : ℕ) → n ≢ 2 → n ≢ 3 → n ≢ 4 → n ≢ 5 → n ≢ 8 → n ≢ 9 → n ≢ 10 → n ≢ 17 → n ≢ 18 → n ≢ 19 → shape_of table (Prefixed 0xFB n) ≢ Some shapes.Uu
unfolding table
after_fb_numbers n n1 n2 n3 n4 n5 n6 n7 n8 n9 n10 e = none_of (2 ∷ 3 ∷ 4 ∷ 5 ∷ 8 ∷ 9 ∷ 10 ∷ 17 ∷ 18 ∷ 19 ∷ []) (keys (number_after 0xFB) shapes.Uu table) n refl (n1, (n2, (n3, (n4, (n5, (n6, (n7, (n8, (n9, (n10, tt)))))))))) (listed (number_after 0xFB) shapes.Uu table (Prefixed 0xFB n) n refl e)

pub after_fc_numbers : (n : ℕ) → n ≢ 8 → n ≢ 10 → n ≢ 12 → n ≢ 14 → shape_of table (Prefixed 0xFC n) ≢ Some shapes.Uu
unfolding table
after_fc_numbers n n1 n2 n3 n4 e = none_of (8 ∷ 10 ∷ 12 ∷ 14 ∷ []) (keys (number_after 0xFC) shapes.Uu table) n refl (n1, (n2, (n3, (n4, tt)))) (listed (number_after 0xFC) shapes.Uu table (Prefixed 0xFC n) n refl e)

pub other_numbers : (p n : ℕ) → p ≢ 0xFB → p ≢ 0xFC → shape_of table (Prefixed p n) ≢ Some shapes.Uu
unfolding table
other_numbers p n n1 n2 e = none_of (0xFB ∷ 0xFC ∷ []) (keys prefix_of shapes.Uu table) p refl (n1, (n2, tt)) (listed prefix_of shapes.Uu table (Prefixed p n) p refl e)

-- ---- a memory argument

pub byte_memory : (b : ℕ) → b ≢ 0x28 → b ≢ 0x29 → b ≢ 0x2A → b ≢ 0x2B → b ≢ 0x2C → b ≢ 0x2D → b ≢ 0x2E → b ≢ 0x2F → b ≢ 0x30 → b ≢ 0x31 → b ≢ 0x32 → b ≢ 0x33 → b ≢ 0x34 → b ≢ 0x35 → b ≢ 0x36 → b ≢ 0x37 → b ≢ 0x38 → b ≢ 0x39 → b ≢ 0x3A → b ≢ 0x3B → b ≢ 0x3C → b ≢ 0x3D → b ≢ 0x3E → shape_of table (Byte b) ≢ Some shapes.M
unfolding table
byte_memory b n1 n2 n3 n4 n5 n6 n7 n8 n9 n10 n11 n12 n13 n14 n15 n16 n17 n18 n19 n20 n21 n22 n23 e = none_of (0x28 ∷ 0x29 ∷ 0x2A ∷ 0x2B ∷ 0x2C ∷ 0x2D ∷ 0x2E ∷ 0x2F ∷ 0x30 ∷ 0x31 ∷ 0x32 ∷ 0x33 ∷ 0x34 ∷ 0x35 ∷ 0x36 ∷ 0x37 ∷ 0x38 ∷ 0x39 ∷ 0x3A ∷ 0x3B ∷ 0x3C ∷ 0x3D ∷ 0x3E ∷ []) (keys byte_of shapes.M table) b refl (n1, (n2, (n3, (n4, (n5, (n6, (n7, (n8, (n9, (n10, (n11, (n12, (n13, (n14, (n15, (n16, (n17, (n18, (n19, (n20, (n21, (n22, (n23, tt))))))))))))))))))))))) (listed byte_of shapes.M table (Byte b) b refl e)

pub after_fd_memory : (n : ℕ) → n ≢ 0 → n ≢ 1 → n ≢ 2 → n ≢ 3 → n ≢ 4 → n ≢ 5 → n ≢ 6 → n ≢ 7 → n ≢ 8 → n ≢ 9 → n ≢ 10 → n ≢ 11 → n ≢ 92 → n ≢ 93 → shape_of table (Prefixed 0xFD n) ≢ Some shapes.M
unfolding table
after_fd_memory n n1 n2 n3 n4 n5 n6 n7 n8 n9 n10 n11 n12 n13 n14 e = none_of (0 ∷ 1 ∷ 2 ∷ 3 ∷ 4 ∷ 5 ∷ 6 ∷ 7 ∷ 8 ∷ 9 ∷ 10 ∷ 11 ∷ 92 ∷ 93 ∷ []) (keys (number_after 0xFD) shapes.M table) n refl (n1, (n2, (n3, (n4, (n5, (n6, (n7, (n8, (n9, (n10, (n11, (n12, (n13, (n14, tt)))))))))))))) (listed (number_after 0xFD) shapes.M table (Prefixed 0xFD n) n refl e)

pub after_fe_memory : (n : ℕ) → n ≢ 0x00 → n ≢ 0x01 → n ≢ 0x02 → n ≢ 0x10 → n ≢ 0x11 → n ≢ 0x12 → n ≢ 0x13 → n ≢ 0x14 → n ≢ 0x15 → n ≢ 0x16 → n ≢ 0x17 → n ≢ 0x18 → n ≢ 0x19 → n ≢ 0x1A → n ≢ 0x1B → n ≢ 0x1C → n ≢ 0x1D → n ≢ 0x1E → n ≢ 0x1F → n ≢ 0x20 → n ≢ 0x21 → n ≢ 0x22 → n ≢ 0x23 → n ≢ 0x24 → n ≢ 0x25 → n ≢ 0x26 → n ≢ 0x27 → n ≢ 0x28 → n ≢ 0x29 → n ≢ 0x2A → n ≢ 0x2B → n ≢ 0x2C → n ≢ 0x2D → n ≢ 0x2E → n ≢ 0x2F → n ≢ 0x30 → n ≢ 0x31 → n ≢ 0x32 → n ≢ 0x33 → n ≢ 0x34 → n ≢ 0x35 → n ≢ 0x36 → n ≢ 0x37 → n ≢ 0x38 → n ≢ 0x39 → n ≢ 0x3A → n ≢ 0x3B → n ≢ 0x3C → n ≢ 0x3D → n ≢ 0x3E → n ≢ 0x3F → n ≢ 0x40 → n ≢ 0x41 → n ≢ 0x42 → n ≢ 0x43 → n ≢ 0x44 → n ≢ 0x45 → n ≢ 0x46 → n ≢ 0x47 → n ≢ 0x48 → n ≢ 0x49 → n ≢ 0x4A → n ≢ 0x4B → n ≢ 0x4C → n ≢ 0x4D → n ≢ 0x4E → shape_of table (Prefixed 0xFE n) ≢ Some shapes.M
unfolding table
after_fe_memory n n1 n2 n3 n4 n5 n6 n7 n8 n9 n10 n11 n12 n13 n14 n15 n16 n17 n18 n19 n20 n21 n22 n23 n24 n25 n26 n27 n28 n29 n30 n31 n32 n33 n34 n35 n36 n37 n38 n39 n40 n41 n42 n43 n44 n45 n46 n47 n48 n49 n50 n51 n52 n53 n54 n55 n56 n57 n58 n59 n60 n61 n62 n63 n64 n65 n66 e = none_of (0x00 ∷ 0x01 ∷ 0x02 ∷ 0x10 ∷ 0x11 ∷ 0x12 ∷ 0x13 ∷ 0x14 ∷ 0x15 ∷ 0x16 ∷ 0x17 ∷ 0x18 ∷ 0x19 ∷ 0x1A ∷ 0x1B ∷ 0x1C ∷ 0x1D ∷ 0x1E ∷ 0x1F ∷ 0x20 ∷ 0x21 ∷ 0x22 ∷ 0x23 ∷ 0x24 ∷ 0x25 ∷ 0x26 ∷ 0x27 ∷ 0x28 ∷ 0x29 ∷ 0x2A ∷ 0x2B ∷ 0x2C ∷ 0x2D ∷ 0x2E ∷ 0x2F ∷ 0x30 ∷ 0x31 ∷ 0x32 ∷ 0x33 ∷ 0x34 ∷ 0x35 ∷ 0x36 ∷ 0x37 ∷ 0x38 ∷ 0x39 ∷ 0x3A ∷ 0x3B ∷ 0x3C ∷ 0x3D ∷ 0x3E ∷ 0x3F ∷ 0x40 ∷ 0x41 ∷ 0x42 ∷ 0x43 ∷ 0x44 ∷ 0x45 ∷ 0x46 ∷ 0x47 ∷ 0x48 ∷ 0x49 ∷ 0x4A ∷ 0x4B ∷ 0x4C ∷ 0x4D ∷ 0x4E ∷ []) (keys (number_after 0xFE) shapes.M table) n refl (n1, (n2, (n3, (n4, (n5, (n6, (n7, (n8, (n9, (n10, (n11, (n12, (n13, (n14, (n15, (n16, (n17, (n18, (n19, (n20, (n21, (n22, (n23, (n24, (n25, (n26, (n27, (n28, (n29, (n30, (n31, (n32, (n33, (n34, (n35, (n36, (n37, (n38, (n39, (n40, (n41, (n42, (n43, (n44, (n45, (n46, (n47, (n48, (n49, (n50, (n51, (n52, (n53, (n54, (n55, (n56, (n57, (n58, (n59, (n60, (n61, (n62, (n63, (n64, (n65, (n66, tt)))))))))))))))))))))))))))))))))))))))))))))))))))))))))))))))))) (listed (number_after 0xFE) shapes.M table (Prefixed 0xFE n) n refl e)

pub other_memory : (p n : ℕ) → p ≢ 0xFD → p ≢ 0xFE → shape_of table (Prefixed p n) ≢ Some shapes.M
unfolding table
other_memory p n n1 n2 e = none_of (0xFD ∷ 0xFE ∷ []) (keys prefix_of shapes.M table) p refl (n1, (n2, tt)) (listed prefix_of shapes.M table (Prefixed p n) p refl e)

-- ---- a memory argument and a lane

pub after_fd_memory_lane : (n : ℕ) → n ≢ 84 → n ≢ 85 → n ≢ 86 → n ≢ 87 → n ≢ 88 → n ≢ 89 → n ≢ 90 → n ≢ 91 → shape_of table (Prefixed 0xFD n) ≢ Some shapes.Ml
unfolding table
after_fd_memory_lane n n1 n2 n3 n4 n5 n6 n7 n8 e = none_of (84 ∷ 85 ∷ 86 ∷ 87 ∷ 88 ∷ 89 ∷ 90 ∷ 91 ∷ []) (keys (number_after 0xFD) shapes.Ml table) n refl (n1, (n2, (n3, (n4, (n5, (n6, (n7, (n8, tt)))))))) (listed (number_after 0xFD) shapes.Ml table (Prefixed 0xFD n) n refl e)

pub other_memory_lane : (p n : ℕ) → p ≢ 0xFD → shape_of table (Prefixed p n) ≢ Some shapes.Ml
unfolding table
other_memory_lane p n n1 e = none_of (0xFD ∷ []) (keys prefix_of shapes.Ml table) p refl (n1, tt) (listed prefix_of shapes.Ml table (Prefixed p n) p refl e)

pub byte_memory_lane : (b : ℕ) → shape_of table (Byte b) ≢ Some shapes.Ml
unfolding table
byte_memory_lane b e = none_of [] (keys byte_of shapes.Ml table) b refl tt (listed byte_of shapes.Ml table (Byte b) b refl e)

-- ---- a lane

pub after_fd_lane : (n : ℕ) → n ≢ 21 → n ≢ 22 → n ≢ 23 → n ≢ 24 → n ≢ 25 → n ≢ 26 → n ≢ 27 → n ≢ 28 → n ≢ 29 → n ≢ 30 → n ≢ 31 → n ≢ 32 → n ≢ 33 → n ≢ 34 → shape_of table (Prefixed 0xFD n) ≢ Some shapes.L
unfolding table
after_fd_lane n n1 n2 n3 n4 n5 n6 n7 n8 n9 n10 n11 n12 n13 n14 e = none_of (21 ∷ 22 ∷ 23 ∷ 24 ∷ 25 ∷ 26 ∷ 27 ∷ 28 ∷ 29 ∷ 30 ∷ 31 ∷ 32 ∷ 33 ∷ 34 ∷ []) (keys (number_after 0xFD) shapes.L table) n refl (n1, (n2, (n3, (n4, (n5, (n6, (n7, (n8, (n9, (n10, (n11, (n12, (n13, (n14, tt)))))))))))))) (listed (number_after 0xFD) shapes.L table (Prefixed 0xFD n) n refl e)

pub other_lane : (p n : ℕ) → p ≢ 0xFD → shape_of table (Prefixed p n) ≢ Some shapes.L
unfolding table
other_lane p n n1 e = none_of (0xFD ∷ []) (keys prefix_of shapes.L table) p refl (n1, tt) (listed prefix_of shapes.L table (Prefixed p n) p refl e)

pub byte_lane : (b : ℕ) → shape_of table (Byte b) ≢ Some shapes.L
unfolding table
byte_lane b e = none_of [] (keys byte_of shapes.L table) b refl tt (listed byte_of shapes.L table (Byte b) b refl e)

-- ---- a block type

pub byte_block : (b : ℕ) → b ≢ 0x02 → b ≢ 0x03 → b ≢ 0x04 → b ≢ 0x06 → shape_of table (Byte b) ≢ Some shapes.B
unfolding table
byte_block b n1 n2 n3 n4 e = none_of (0x02 ∷ 0x03 ∷ 0x04 ∷ 0x06 ∷ []) (keys byte_of shapes.B table) b refl (n1, (n2, (n3, (n4, tt)))) (listed byte_of shapes.B table (Byte b) b refl e)

pub other_block : (p n : ℕ) → shape_of table (Prefixed p n) ≢ Some shapes.B
unfolding table
other_block p n e = none_of [] (keys prefix_of shapes.B table) p refl tt (listed prefix_of shapes.B table (Prefixed p n) p refl e)

-- ---- a heap type

pub byte_heap : (b : ℕ) → b ≢ 0xD0 → shape_of table (Byte b) ≢ Some shapes.H
unfolding table
byte_heap b n1 e = none_of (0xD0 ∷ []) (keys byte_of shapes.H table) b refl (n1, tt) (listed byte_of shapes.H table (Byte b) b refl e)

pub after_fb_heap : (n : ℕ) → n ≢ 20 → n ≢ 21 → n ≢ 22 → n ≢ 23 → n ≢ 35 → n ≢ 36 → shape_of table (Prefixed 0xFB n) ≢ Some shapes.H
unfolding table
after_fb_heap n n1 n2 n3 n4 n5 n6 e = none_of (20 ∷ 21 ∷ 22 ∷ 23 ∷ 35 ∷ 36 ∷ []) (keys (number_after 0xFB) shapes.H table) n refl (n1, (n2, (n3, (n4, (n5, (n6, tt)))))) (listed (number_after 0xFB) shapes.H table (Prefixed 0xFB n) n refl e)

pub other_heap : (p n : ℕ) → p ≢ 0xFB → shape_of table (Prefixed p n) ≢ Some shapes.H
unfolding table
other_heap p n n1 e = none_of (0xFB ∷ []) (keys prefix_of shapes.H table) p refl (n1, tt) (listed prefix_of shapes.H table (Prefixed p n) p refl e)

-- ---- an ordering

pub after_fe_ordering : (n : ℕ) → n ≢ 0x03 → shape_of table (Prefixed 0xFE n) ≢ Some shapes.O
unfolding table
after_fe_ordering n n1 e = none_of (0x03 ∷ []) (keys (number_after 0xFE) shapes.O table) n refl (n1, tt) (listed (number_after 0xFE) shapes.O table (Prefixed 0xFE n) n refl e)

pub other_ordering : (p n : ℕ) → p ≢ 0xFE → shape_of table (Prefixed p n) ≢ Some shapes.O
unfolding table
other_ordering p n n1 e = none_of (0xFE ∷ []) (keys prefix_of shapes.O table) p refl (n1, tt) (listed prefix_of shapes.O table (Prefixed p n) p refl e)

pub byte_ordering : (b : ℕ) → shape_of table (Byte b) ≢ Some shapes.O
unfolding table
byte_ordering b e = none_of [] (keys byte_of shapes.O table) b refl tt (listed byte_of shapes.O table (Byte b) b refl e)

-- ---- an ordering and a number

pub after_fe_ordering_number : (n : ℕ) → n ≢ 0x4F → n ≢ 0x50 → n ≢ 0x51 → n ≢ 0x52 → n ≢ 0x53 → n ≢ 0x54 → n ≢ 0x55 → n ≢ 0x56 → n ≢ 0x57 → n ≢ 0x58 → n ≢ 0x59 → n ≢ 0x5A → n ≢ 0x5B → n ≢ 0x67 → n ≢ 0x68 → n ≢ 0x69 → n ≢ 0x6A → n ≢ 0x6B → n ≢ 0x6C → n ≢ 0x6D → n ≢ 0x6E → n ≢ 0x6F → n ≢ 0x70 → n ≢ 0x71 → shape_of table (Prefixed 0xFE n) ≢ Some shapes.Ou
unfolding table
after_fe_ordering_number n n1 n2 n3 n4 n5 n6 n7 n8 n9 n10 n11 n12 n13 n14 n15 n16 n17 n18 n19 n20 n21 n22 n23 n24 e = none_of (0x4F ∷ 0x50 ∷ 0x51 ∷ 0x52 ∷ 0x53 ∷ 0x54 ∷ 0x55 ∷ 0x56 ∷ 0x57 ∷ 0x58 ∷ 0x59 ∷ 0x5A ∷ 0x5B ∷ 0x67 ∷ 0x68 ∷ 0x69 ∷ 0x6A ∷ 0x6B ∷ 0x6C ∷ 0x6D ∷ 0x6E ∷ 0x6F ∷ 0x70 ∷ 0x71 ∷ []) (keys (number_after 0xFE) shapes.Ou table) n refl (n1, (n2, (n3, (n4, (n5, (n6, (n7, (n8, (n9, (n10, (n11, (n12, (n13, (n14, (n15, (n16, (n17, (n18, (n19, (n20, (n21, (n22, (n23, (n24, tt)))))))))))))))))))))))) (listed (number_after 0xFE) shapes.Ou table (Prefixed 0xFE n) n refl e)

pub other_ordering_number : (p n : ℕ) → p ≢ 0xFE → shape_of table (Prefixed p n) ≢ Some shapes.Ou
unfolding table
other_ordering_number p n n1 e = none_of (0xFE ∷ []) (keys prefix_of shapes.Ou table) p refl (n1, tt) (listed prefix_of shapes.Ou table (Prefixed p n) p refl e)

pub byte_ordering_number : (b : ℕ) → shape_of table (Byte b) ≢ Some shapes.Ou
unfolding table
byte_ordering_number b e = none_of [] (keys byte_of shapes.Ou table) b refl tt (listed byte_of shapes.Ou table (Byte b) b refl e)

-- ---- an ordering and two numbers

pub after_fe_ordering_numbers : (n : ℕ) → n ≢ 0x5C → n ≢ 0x5D → n ≢ 0x5E → n ≢ 0x5F → n ≢ 0x60 → n ≢ 0x61 → n ≢ 0x62 → n ≢ 0x63 → n ≢ 0x64 → n ≢ 0x65 → n ≢ 0x66 → shape_of table (Prefixed 0xFE n) ≢ Some shapes.Ouu
unfolding table
after_fe_ordering_numbers n n1 n2 n3 n4 n5 n6 n7 n8 n9 n10 n11 e = none_of (0x5C ∷ 0x5D ∷ 0x5E ∷ 0x5F ∷ 0x60 ∷ 0x61 ∷ 0x62 ∷ 0x63 ∷ 0x64 ∷ 0x65 ∷ 0x66 ∷ []) (keys (number_after 0xFE) shapes.Ouu table) n refl (n1, (n2, (n3, (n4, (n5, (n6, (n7, (n8, (n9, (n10, (n11, tt))))))))))) (listed (number_after 0xFE) shapes.Ouu table (Prefixed 0xFE n) n refl e)

pub other_ordering_numbers : (p n : ℕ) → p ≢ 0xFE → shape_of table (Prefixed p n) ≢ Some shapes.Ouu
unfolding table
other_ordering_numbers p n n1 e = none_of (0xFE ∷ []) (keys prefix_of shapes.Ouu table) p refl (n1, tt) (listed prefix_of shapes.Ouu table (Prefixed p n) p refl e)

pub byte_ordering_numbers : (b : ℕ) → shape_of table (Byte b) ≢ Some shapes.Ouu
unfolding table
byte_ordering_numbers b e = none_of [] (keys byte_of shapes.Ouu table) b refl tt (listed byte_of shapes.Ouu table (Byte b) b refl e)

-- ---- a signed number of 32 bits

pub byte_signed32 : (b : ℕ) → b ≢ 0x41 → shape_of table (Byte b) ≢ Some shapes.C32
unfolding table
byte_signed32 b n1 e = none_of (0x41 ∷ []) (keys byte_of shapes.C32 table) b refl (n1, tt) (listed byte_of shapes.C32 table (Byte b) b refl e)

pub other_signed32 : (p n : ℕ) → shape_of table (Prefixed p n) ≢ Some shapes.C32
unfolding table
other_signed32 p n e = none_of [] (keys prefix_of shapes.C32 table) p refl tt (listed prefix_of shapes.C32 table (Prefixed p n) p refl e)

-- ---- a signed number of 64 bits

pub byte_signed64 : (b : ℕ) → b ≢ 0x42 → shape_of table (Byte b) ≢ Some shapes.C64
unfolding table
byte_signed64 b n1 e = none_of (0x42 ∷ []) (keys byte_of shapes.C64 table) b refl (n1, tt) (listed byte_of shapes.C64 table (Byte b) b refl e)

pub other_signed64 : (p n : ℕ) → shape_of table (Prefixed p n) ≢ Some shapes.C64
unfolding table
other_signed64 p n e = none_of [] (keys prefix_of shapes.C64 table) p refl tt (listed prefix_of shapes.C64 table (Prefixed p n) p refl e)

-- ---- a float of 32 bits

pub byte_float32 : (b : ℕ) → b ≢ 0x43 → shape_of table (Byte b) ≢ Some shapes.F32
unfolding table
byte_float32 b n1 e = none_of (0x43 ∷ []) (keys byte_of shapes.F32 table) b refl (n1, tt) (listed byte_of shapes.F32 table (Byte b) b refl e)

pub other_float32 : (p n : ℕ) → shape_of table (Prefixed p n) ≢ Some shapes.F32
unfolding table
other_float32 p n e = none_of [] (keys prefix_of shapes.F32 table) p refl tt (listed prefix_of shapes.F32 table (Prefixed p n) p refl e)

-- ---- a float of 64 bits

pub byte_float64 : (b : ℕ) → b ≢ 0x44 → shape_of table (Byte b) ≢ Some shapes.F64
unfolding table
byte_float64 b n1 e = none_of (0x44 ∷ []) (keys byte_of shapes.F64 table) b refl (n1, tt) (listed byte_of shapes.F64 table (Byte b) b refl e)

pub other_float64 : (p n : ℕ) → shape_of table (Prefixed p n) ≢ Some shapes.F64
unfolding table
other_float64 p n e = none_of [] (keys prefix_of shapes.F64 table) p refl tt (listed prefix_of shapes.F64 table (Prefixed p n) p refl e)

-- ---- a vector of 128 bits

pub after_fd_vector : (n : ℕ) → n ≢ 12 → shape_of table (Prefixed 0xFD n) ≢ Some shapes.V
unfolding table
after_fd_vector n n1 e = none_of (12 ∷ []) (keys (number_after 0xFD) shapes.V table) n refl (n1, tt) (listed (number_after 0xFD) shapes.V table (Prefixed 0xFD n) n refl e)

pub other_vector : (p n : ℕ) → p ≢ 0xFD → shape_of table (Prefixed p n) ≢ Some shapes.V
unfolding table
other_vector p n n1 e = none_of (0xFD ∷ []) (keys prefix_of shapes.V table) p refl (n1, tt) (listed prefix_of shapes.V table (Prefixed p n) p refl e)

pub byte_vector : (b : ℕ) → shape_of table (Byte b) ≢ Some shapes.V
unfolding table
byte_vector b e = none_of [] (keys byte_of shapes.V table) b refl tt (listed byte_of shapes.V table (Byte b) b refl e)

-- ---- sixteen lanes

pub after_fd_lanes : (n : ℕ) → n ≢ 13 → shape_of table (Prefixed 0xFD n) ≢ Some shapes.Ls
unfolding table
after_fd_lanes n n1 e = none_of (13 ∷ []) (keys (number_after 0xFD) shapes.Ls table) n refl (n1, tt) (listed (number_after 0xFD) shapes.Ls table (Prefixed 0xFD n) n refl e)

pub other_lanes : (p n : ℕ) → p ≢ 0xFD → shape_of table (Prefixed p n) ≢ Some shapes.Ls
unfolding table
other_lanes p n n1 e = none_of (0xFD ∷ []) (keys prefix_of shapes.Ls table) p refl (n1, tt) (listed prefix_of shapes.Ls table (Prefixed p n) p refl e)

pub byte_lanes : (b : ℕ) → shape_of table (Byte b) ≢ Some shapes.Ls
unfolding table
byte_lanes b e = none_of [] (keys byte_of shapes.Ls table) b refl tt (listed byte_of shapes.Ls table (Byte b) b refl e)

-- ---- labels and a default label

pub byte_labels : (b : ℕ) → b ≢ 0x0E → shape_of table (Byte b) ≢ Some shapes.Bt
unfolding table
byte_labels b n1 e = none_of (0x0E ∷ []) (keys byte_of shapes.Bt table) b refl (n1, tt) (listed byte_of shapes.Bt table (Byte b) b refl e)

pub other_labels : (p n : ℕ) → shape_of table (Prefixed p n) ≢ Some shapes.Bt
unfolding table
other_labels p n e = none_of [] (keys prefix_of shapes.Bt table) p refl tt (listed prefix_of shapes.Bt table (Prefixed p n) p refl e)

-- ---- a block type and catch clauses

pub byte_clauses : (b : ℕ) → b ≢ 0x1F → shape_of table (Byte b) ≢ Some shapes.Tt
unfolding table
byte_clauses b n1 e = none_of (0x1F ∷ []) (keys byte_of shapes.Tt table) b refl (n1, tt) (listed byte_of shapes.Tt table (Byte b) b refl e)

pub other_clauses : (p n : ℕ) → shape_of table (Prefixed p n) ≢ Some shapes.Tt
unfolding table
other_clauses p n e = none_of [] (keys prefix_of shapes.Tt table) p refl tt (listed prefix_of shapes.Tt table (Prefixed p n) p refl e)

-- ---- value types

pub byte_types : (b : ℕ) → b ≢ 0x1C → shape_of table (Byte b) ≢ Some shapes.Ts
unfolding table
byte_types b n1 e = none_of (0x1C ∷ []) (keys byte_of shapes.Ts table) b refl (n1, tt) (listed byte_of shapes.Ts table (Byte b) b refl e)

pub other_types : (p n : ℕ) → shape_of table (Prefixed p n) ≢ Some shapes.Ts
unfolding table
other_types p n e = none_of [] (keys prefix_of shapes.Ts table) p refl tt (listed prefix_of shapes.Ts table (Prefixed p n) p refl e)

-- ---- a label and two reference types

pub after_fb_cast : (n : ℕ) → n ≢ 24 → n ≢ 25 → n ≢ 37 → n ≢ 38 → shape_of table (Prefixed 0xFB n) ≢ Some shapes.K
unfolding table
after_fb_cast n n1 n2 n3 n4 e = none_of (24 ∷ 25 ∷ 37 ∷ 38 ∷ []) (keys (number_after 0xFB) shapes.K table) n refl (n1, (n2, (n3, (n4, tt)))) (listed (number_after 0xFB) shapes.K table (Prefixed 0xFB n) n refl e)

pub other_cast : (p n : ℕ) → p ≢ 0xFB → shape_of table (Prefixed p n) ≢ Some shapes.K
unfolding table
other_cast p n n1 e = none_of (0xFB ∷ []) (keys prefix_of shapes.K table) p refl (n1, tt) (listed prefix_of shapes.K table (Prefixed p n) p refl e)

pub byte_cast : (b : ℕ) → shape_of table (Byte b) ≢ Some shapes.K
unfolding table
byte_cast b e = none_of [] (keys byte_of shapes.K table) b refl tt (listed byte_of shapes.K table (Byte b) b refl e)

-- ---- a number and handle clauses

pub byte_handles : (b : ℕ) → b ≢ 0xE3 → b ≢ 0xE5 → shape_of table (Byte b) ≢ Some shapes.Uh
unfolding table
byte_handles b n1 n2 e = none_of (0xE3 ∷ 0xE5 ∷ []) (keys byte_of shapes.Uh table) b refl (n1, (n2, tt)) (listed byte_of shapes.Uh table (Byte b) b refl e)

pub other_handles : (p n : ℕ) → shape_of table (Prefixed p n) ≢ Some shapes.Uh
unfolding table
other_handles p n e = none_of [] (keys prefix_of shapes.Uh table) p refl tt (listed prefix_of shapes.Uh table (Prefixed p n) p refl e)

-- ---- two numbers and handle clauses

pub byte_numbers_handles : (b : ℕ) → b ≢ 0xE4 → shape_of table (Byte b) ≢ Some shapes.Uuh
unfolding table
byte_numbers_handles b n1 e = none_of (0xE4 ∷ []) (keys byte_of shapes.Uuh table) b refl (n1, tt) (listed byte_of shapes.Uuh table (Byte b) b refl e)

pub other_numbers_handles : (p n : ℕ) → shape_of table (Prefixed p n) ≢ Some shapes.Uuh
unfolding table
other_numbers_handles p n e = none_of [] (keys prefix_of shapes.Uuh table) p refl tt (listed prefix_of shapes.Uuh table (Prefixed p n) p refl e)
