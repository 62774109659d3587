use mathlib.Core.Path.{◌≡◌, sym, subst}
use Rattle.area.specs.Lists as area
use Rattle.host.specs.Calls.{fresh_bytes}
use Rattle.host.specs.Lists.{AllRecordLists}
use Rattle.host.proofs.ListLaws.{all_lists}
use Rattle.host.proofs.area_calls.strakobud_fresh.Goals as goal

pub returns : goal.returns
unfolding fresh_bytes
returns c =
    let fresh = c.default.ensures in
    let starts : c.put_state.new.bytes ≡ fresh_bytes = rw (c.put_state.ensures, fresh.starts) in
    record { starts = starts; lists = subst AllRecordLists (sym starts) (all_lists (subst area.AllLists fresh.starts fresh.lists)) }
