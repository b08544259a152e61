use Rattle.std.proofs.Common.{sym, arith}
use Rattle.std.proofs.lemmas.Result.{err_from_is_err_and}
use Rattle.mqtt_packet.specs.Packet.{plain}
use Rattle.mqtt_packet.specs.ArrangedLaws.{can_be_written}
use Rattle.mqtt_packet.specs.ExactLaws.{ok_means}
use Rattle.mqtt_packet.specs.AnswerLaws.{no_frame, another_version, of_no_kind, of_packet}
use Rattle.mqtt_packet.proofs.reading.read.Goals as goal

pub returns-in_default : goal.returns-in_default
returns-in_default c = record { exact = no_frame c.args.bytes.now (sym (c.in_default.ensures)); spells = tt; fits = tt }

pub returns-then-is_other_version : goal.returns-then-is_other_version
returns-then-is_other_version c =
    record {
      exact = another_version c.args.bytes.now (c.in-Some.first, c.in-Some.body.now) (sym c.in-Some.ensures) (sym c.if-is_other_version.ensures);
      spells = tt;
      fits = tt;
    }

pub returns-in_err-packet : goal.returns-in_err-packet
returns-in_err-packet c =
    let p = err_from_is_err_and c.from_residual.result c.from_residual.ensures.1 in
    rw (p.1, p.2) record {
      exact = of_no_kind c.args.bytes.now (c.in-Some.first, c.in-Some.body.now) c.in_err-packet.field-0.0 (sym c.in-Some.ensures) (sym c.if-is_other_version.ensures) c.in_err-packet.ensures.exact;
      spells = tt;
      fits = tt;
    }

pub returns-in-Some-broken_rule : goal.returns-in-Some-broken_rule
returns-in-Some-broken_rule c =
    record {
      exact = of_packet c.args.bytes.now (c.in-Some.first, c.in-Some.body.now) (plain c.in_ok-packet.packet) _ (sym c.in-Some.ensures) (sym c.if-is_other_version.ensures) c.in_ok-packet.ensures.exact (sym c.in-Some-broken_rule.ensures);
      spells = tt;
      fits = tt;
    }

pub returns : goal.returns
returns c =
    let answered = of_packet c.args.bytes.now (c.in-Some.first, c.in-Some.body.now) (plain c.in_ok-packet.packet) _ (sym c.in-Some.ensures) (sym c.if-is_other_version.ensures) c.in_ok-packet.ensures.exact (sym c.in_default-broken_rule.ensures) in
    let found = ok_means c.args.bytes.now (plain c.in_ok-packet.packet) (λ i. omega (arith, c.type_inv.bytes i)) answered in
    record { exact = answered; spells = found.0; fits = can_be_written c.args.bytes.now (plain c.in_ok-packet.packet) found.0 }
