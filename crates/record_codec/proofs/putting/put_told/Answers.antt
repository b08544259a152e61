use Rattle.std.proofs.Common.{◌++◌}
use Rattle.wire_fields.specs.Spelled.{spelled_u8, spelled_u16, spelled_u64}
use Rattle.topic_name.specs.BodyView.{payload_of}
use Rattle.session_codec.specs.PutLaws.{puts_two}
use Rattle.record_codec.specs.Spelling.{spelled_blob, spelled_topic, spelled_expiry}
use Rattle.record_codec.proofs.putting.put_told.Goals as goal

pub returns : goal.returns
returns c =
    let m = c.message.inside in
    rw (← c.message.view_is) record {
      exact = puts_two c.args.out.now.items ((spelled_u16 m.id ++ spelled_u8 m.qos) ++ (spelled_u64 m.stamp ++ spelled_expiry m.expiry))
          (spelled_topic m.topic ++ (spelled_blob m.props ++ spelled_blob (payload_of m.body))) c.put_delivery.new.out.items c.put_content.new.out.items
          c.in_ok-put_delivery.ensures.exact c.in_ok-put_content.ensures.exact;
    }
