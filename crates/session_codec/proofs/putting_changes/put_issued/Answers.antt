use Rattle.std.proofs.Common.{◌++◌}
use Rattle.wire_fields.specs.Spelled.{spelled_u32}
use Rattle.session_codec.specs.Spelling.{spelled_batch, spelled_sweep}
use Rattle.session_codec.specs.PutLaws.{puts_two}
use Rattle.session_codec.proofs.putting_changes.put_issued.Goals as goal

pub returns : goal.returns
returns c =
    let i = c.args.issued.now in
    record {
      exact = puts_two c.args.out.now.items (spelled_u32 i.subscription) (spelled_batch i.batch ++ spelled_sweep i.sweep) c.put_numbers.new.out.items
          c.put_batch_and_sweep.new.out.items c.in_ok-put_numbers.ensures.exact c.in_ok-put_batch_and_sweep.ensures.exact;
    }
