use Rattle.shard_views.specs.ViewLaws.{goes_nowhere, goes_on, later_reaches, learn_goes, leave_goes, told_on, view_goes}
use Rattle.shard_views.proofs.laws.what_was_seen_stays.Goals as goal

pub returns : goal.returns
returns c = record {
  itself = goes_nowhere;
  on = goes_on;
  view = view_goes;
  leave = leave_goes;
  learn = learn_goes;
  told = told_on;
  reached = later_reaches;
}
