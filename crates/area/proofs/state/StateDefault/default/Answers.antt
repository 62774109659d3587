use Rattle.area.specs.State.{default}
use Rattle.area.proofs.ListLaws.{all_lists}
use Rattle.area.proofs.state.StateDefault.default.Goals as goal

pub returns-clause-lists : goal.returns-clause-lists
unfolding default
returns-clause-lists c = all_lists
