use Rattle.shard_model.specs.laws.OrderLaws.{numbers_in_order, number_once, firsts_in_order, newest_in_order, only_newest_open, message_in_order}
use Rattle.shard_model.proofs.laws.order_means.Goals as goal

pub returns-clause-numbers : goal.returns-clause-numbers
returns-clause-numbers c = numbers_in_order

pub returns-clause-once : goal.returns-clause-once
returns-clause-once c = number_once

pub returns-clause-firsts : goal.returns-clause-firsts
returns-clause-firsts c = firsts_in_order

pub returns-clause-newest : goal.returns-clause-newest
returns-clause-newest c = newest_in_order

pub returns-clause-sealed : goal.returns-clause-sealed
returns-clause-sealed c = only_newest_open

pub returns-clause-messages : goal.returns-clause-messages
returns-clause-messages c = message_in_order
