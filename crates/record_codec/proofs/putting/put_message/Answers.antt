use Rattle.std.proofs.Common.{◌++◌, ◌∙◌, ap}
use Rattle.topic_name.specs.KeptMessage.{KeptMessage}
use Rattle.session_codec.specs.PutLaws.{puts_two}
use Rattle.record_codec.specs.Spelling.{spelled_sender, spelled_told}
use Rattle.record_codec.proofs.putting.put_message.Goals as goal

pub returns : goal.returns
returns c =
    let old = c.args.out.now.items in
    let m = c.args.message.now.stored in
    record {
      exact = puts_two old (spelled_sender m.publisher m.incarnation) (spelled_told m) c.put_sender.new.out.items c.put_told.new.out.items
          (c.in_ok-put_sender.ensures.exact ∙ ap (λ (k : KeptMessage). old ++ spelled_sender k.stored.publisher k.stored.incarnation) c.message.view_is)
          c.in_ok-put_told.ensures.exact;
    }
