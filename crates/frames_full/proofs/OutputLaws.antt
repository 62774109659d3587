-- The outputs of a refused frame are a hundred zeros. Assumes nothing.
use Rattle.std.proofs.Common.{◌≡◌, ℕ, refl, replicate}
use Rattle.words.specs.Words.{bytes_of}
use Rattle.records.specs.Record.{out_words}
use Rattle.area.specs.declared.state.State.{State}
use Rattle.area.specs.Outcome.{refused_of, no_rect}

pub of_refused : (state : State) (n : ℕ) → bytes_of (out_words (refused_of state n).outcome) ≡ replicate 100 0
unfolding refused_of no_rect out_words bytes_of lib.Ieee.to_bits lib.Ieee.of_bits
of_refused state n = refl
