-- The settling run (document 02, K1) on a record: what it answers, and what it leaves in the bytes that it is lent.
use Rattle.std.specs.Prelude.{ℕ, cond, List, [], ◌∷◌, eqb, ltb, Float}
use Rattle.words.specs.Words.{word_at, bytes_of}
use Rattle.numbers.specs.Table.{Table, table_at}
use Rattle.area.specs.Frame.{word_no, time_no}
use Rattle.area.specs.SettlingRun.{settle_refusal, settle_from}
use Rattle.area.specs.declared.state.State.{State}
use Rattle.area.specs.SettlingRun.{Settled}
use Rattle.records.specs.Record.{record_of, state_of, is_damaged}
use Rattle.host.specs.Calls.{damaged_refusal}

-- a run's three words: the increment, written as a time is, and the limit
unfoldable pub increment_of : List ℕ → Float
increment_of run = time_no run 1

unfoldable pub limit_of : List ℕ → ℕ
limit_of run = word_no run 3

pub record RunLeft : Type 0 where
  pub refusal : ℕ
  pub state : List ℕ
  pub used : List ℕ

-- with the refusal up front, or 0: a run that is turned back there leaves both buffers as they were ("leaves lent memory as it was"). After that
-- `used` holds the frames used, and the record is that of the state after them, also where a frame inside was refused; with none used it stays
abbrev pub ran_by : ℕ → Settled → List ℕ → List ℕ → RunLeft
ran_by up_front r state used =
    cond (eqb up_front 0)
    (record {
      refusal = r.refusal;
      state = cond (ltb 0 r.used) (record_of r.state) state;
      used = bytes_of (r.used ∷ []);
    })
    (record { refusal = up_front; state = state; used = used })

-- a damaged record is 6, in 6's place
unfoldable pub up_front_on : List ℕ → List ℕ → List ℕ → ℕ
up_front_on state frame run =
    cond (is_damaged (word_at state) 0) (damaged_refusal frame) (settle_refusal (state_of state) frame (increment_of run) (limit_of run))

-- the frames of a run that is not turned back there
unfoldable pub ran_under : Table → State → List ℕ → List ℕ → Settled
ran_under table state frame run = settle_from table (increment_of run) (limit_of run) state frame

-- under a table
unfoldable pub settle_under : Table → List ℕ → List ℕ → List ℕ → List ℕ → RunLeft
settle_under table state frame run used = ran_by (up_front_on state frame run) (ran_under table (state_of state) frame run) state used

-- strakobud_settle: T serves where no table is given
abbrev pub settle_on : List ℕ → List ℕ → List ℕ → List ℕ → RunLeft
settle_on = settle_under table_at
