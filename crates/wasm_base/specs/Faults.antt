-- This file defines the errors of calls that decode: a cause, and the number of bytes left.
use Rattle.std.specs.Prelude.{◌≡◌, ◌==◌, if◌then◌else◌, ℕ, ◌+◌, ◌*◌, ◌/◌, ◌%◌, ◌<◌, ◌^◌}
use Rattle.wasm_base.specs.declared.fault.ReadFault.{ReadFault}
use Rattle.wasm_base.specs.declared.fault.ReadFault.TheVariants.{Ended, NotShortest, TooLarge, UnknownTag, UnknownOpcode, NotUtf8, SizeMismatch, Memory}

-- A failed decoding: its cause, and how many bytes of the input are left.
pub record Failure : Type 0 where
  pub cause : ReadFault
  pub left : ℕ

-- The number of a cause.
abbrev pub cause_number : ReadFault → ℕ
cause_number Ended = 0
cause_number NotShortest = 1
cause_number TooLarge = 2
cause_number UnknownTag = 3
cause_number UnknownOpcode = 4
cause_number NotUtf8 = 5
cause_number SizeMismatch = 6
cause_number Memory = 7

-- The cause of a number. It is `Memory` for numbers of no other cause.
abbrev pub cause_numbered : ℕ → ReadFault
cause_numbered n =
    if n == 0 then Ended
    else if n == 1 then NotShortest
    else if n == 2 then TooLarge
    else if n == 3 then UnknownTag
    else if n == 4 then UnknownOpcode
    else if n == 5 then NotUtf8
    else if n == 6 then SizeMismatch
    else Memory

-- A failure as one number: the number of bytes left times 256, plus the number of the cause.
abbrev pub word_of : Failure → ℕ
word_of f = f.left * 256 + cause_number f.cause

-- The failure of such a number.
abbrev pub failure_of : ℕ → Failure
failure_of word = record { cause = cause_numbered (word % 256); left = word / 256 }

-- The number is that of a failure, whose number of bytes left is below 2^32.
pub record IsWord (word : ℕ) : Type 0 where
  pub is_number : word_of (failure_of word) ≡ word
  pub left : word / 256 < 2 ^ 32
