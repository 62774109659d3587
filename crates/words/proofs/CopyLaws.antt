-- Bytes that are copied over others, of the same number, are all that is there. Assumes nothing.
use mathlib.Core.Path.{◌≡◌, sym, ap, ◌∙◌}
use mathlib.Core.List.{List, ◌++◌, append-nil}
use Prim.Native.Nat.{ℕ}
use native.Mathlib.Nat.{le_of_eq}
use lib.ListN.{length, take, drop, drop_of_length-le}
use lib.Seq.{take-length}

pub copied : (bytes over : List ℕ) → length bytes ≡ length over → take (length bytes) bytes ++ drop (length bytes) over ≡ bytes
copied bytes over e =
    ap (λ (l : List ℕ). l ++ drop (length bytes) over) (take-length bytes)
    ∙ ap (λ (l : List ℕ). bytes ++ l) (drop_of_length-le over (le_of_eq (sym e))) ∙ append-nil bytes
