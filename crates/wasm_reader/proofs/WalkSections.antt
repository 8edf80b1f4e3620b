-- This file proves what a walk over the payload of a section gives.
use Rattle.wasm_base.proofs.Words.{◌≡◌, ℕ, List, ◌++◌, refl, sym, subst, Grammar, padded_of, mapped, name, Result, OnOk, on_ok, Rejects, RejectsWhole, Mode, ◌≢◌, if_err_more}
use Rattle.std.proofs.Common.{IfErr}
use Rattle.wasm_base.specs.declared.fault.ReadFault.TheVariants.{Memory}
use Rattle.wasm_base.specs.Faults.{Failure}
use Rattle.wasm_base.specs.Walks.{TakesBytes, Walks, WalksWhole}
use Rattle.wasm_base.proofs.WalkLaws.{take_then}
use Rattle.wasm_reader.specs.{Custom, Raw, content}
use Rattle.wasm_reader.specs.declared.kinds.SectionKind.{SectionKind}
use Rattle.wasm_reader.specs.declared.kinds.SectionKind.TheVariants as kinds
use Rattle.wasm_reader.proofs.KindLaws.{custom_read, rejects, row}

-- A walk over the payload of a kind, by the format of its row, and by its content.
pub kind_walks : {E : Type 0} (seen : E → List ℕ → Type 0) (w : Grammar) (k kind : SectionKind) (bytes : List ℕ) (old new : E) (r : Result (Unit {0}) Failure) → kind ≡ k → OnOk r (WalksWhole seen w (row k).F bytes old new) → OnOk r (WalksWhole seen w (content kind) bytes old new)
kind_walks seen w k kind bytes old new r e found = on_ok r _ _ found λ h.
    let whole : WalksWhole seen w (mapped (row k).make (row k).F) bytes old new = record { value = (row k).make h.value; decoded = (h.value, refl, h.decoded); encoding = h.encoding; encodes = (h.value, refl, h.encodes); taken = h.taken } in
    subst (λ z. WalksWhole seen w (content z) bytes old new) (sym e) (subst (λ G. WalksWhole seen w G bytes old new) (sym (row k).is) whole)

pub content_walks : {E : Type 0} (seen : E → List ℕ → Type 0) (w : Grammar) (k kind : SectionKind) (bytes : List ℕ) (old new : E) (r : Result (Unit {0}) Failure) → kind ≡ k → OnOk r (WalksWhole seen w (content k) bytes old new) → OnOk r (WalksWhole seen w (content kind) bytes old new)
content_walks seen w k kind bytes old new r e found = subst (λ k. OnOk r (WalksWhole seen w (content k) bytes old new)) (sym e) found

pub kind_rejects : (k kind : SectionKind) (m : Mode) (bytes : List ℕ) (r : Result (Unit {0}) Failure) → kind ≡ k → IfErr r (λ e. e.cause ≢ Memory → RejectsWhole (row k).F m bytes) → IfErr r (λ e. e.cause ≢ Memory → RejectsWhole (content kind) m bytes)
kind_rejects k kind m bytes r e none = if_err_more r (λ f g n. rejects kind k m bytes e (g n)) none

pub ruleset kind_steps = (kind_walks, content_walks, kind_rejects)

module _ {E : Type 0} {seen : E → List ℕ → Type 0} {w : Grammar} where
  -- A name, then any bytes.
  pub custom_walks : (bytes rest : List ℕ) (old middle new : E) → Walks seen w name bytes rest old middle → TakesBytes seen rest middle new → WalksWhole seen w (content kinds.Custom) bytes old new
  custom_walks bytes rest old middle new h t = record {
    value = Custom (h.value, rest);
    decoded = (custom_read (padded_of w) kinds.Custom bytes refl).1 h.value rest h.decoded;
    encoding = h.encoding ++ rest;
    encodes = ((h.value, rest), refl, record { front = h.encoding; back = rest; joined = refl; first = h.encodes; second = refl });
    taken = take_then seen h.encoding rest old middle new h.taken t;
  }

  pub raw_walks : (bytes : List ℕ) (old new : E) → TakesBytes seen bytes old new → WalksWhole seen w (content kinds.Raw) bytes old new
  raw_walks bytes old new t = record { value = Raw bytes; decoded = (bytes, refl, refl); encoding = bytes; encodes = (bytes, refl, refl); taken = t }

pub custom_none : (w : Grammar) (bytes : List ℕ) → Rejects name (padded_of w) bytes → RejectsWhole (content kinds.Custom) (padded_of w) bytes
custom_none w bytes n = (custom_read (padded_of w) kinds.Custom bytes refl).0 n
