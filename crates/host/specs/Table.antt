-- The calls on a maker's table (document 02, K4): loading one, and T as a maker would ship it.
use Rattle.std.specs.Prelude.{◌≡◌, cond, List, [], ◌++◌, ℕ, zero, suc, eqb}
use Rattle.words.specs.Words.{long_words, bytes_of}
use Rattle.numbers.specs.Table.{table_at, load_of, table_of}
use Rattle.host.specs.Calls.{frame_on, frame_under, step_on, step_under}
use Rattle.host.specs.SettlingRun.{settle_on, settle_under}

-- strakobud_table_load: the bytes are copied where they load, and else the table stays
pub record TableLeft : Type 0 where
  pub refusal : ℕ
  pub table : List ℕ

unfoldable pub load_on : List ℕ → List ℕ → TableLeft
load_on bytes table =
    cond (eqb (load_of bytes) 0) (record { refusal = 0; table = bytes }) (record { refusal = load_of bytes; table = table })

-- n entries of T from entry k on
unfoldable pub entry_words : ℕ → ℕ → List ℕ
entry_words zero k = []
entry_words (suc n) k = long_words (table_at k) ++ entry_words n (suc k)

-- strakobud_table_t
abbrev pub table_bytes : List ℕ
table_bytes = bytes_of (entry_words 1025 0)

-- ---- what holds of it (proofs/TableLaws.antt)

-- bytes that load, stand for T, and under which every call gives the very answers of the call without a table
pub record ServesAsT (bytes : List ℕ) : Type 0 where
  pub loads : load_of bytes ≡ 0
  pub is_t : table_of bytes ≡ table_at
  pub same_frame : (state frame out : List ℕ) → frame_under (table_of bytes) state frame out ≡ frame_on state frame out
  pub same_run : (state frame run used : List ℕ) → settle_under (table_of bytes) state frame run used ≡ settle_on state frame run used
  pub same_step : (call : List ℕ) → step_under (table_of bytes) call ≡ step_on call
