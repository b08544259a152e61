use Rattle.std.proofs.Common.{◌++◌, ◌∷◌, ◌∙◌, ap}
use Rattle.wire_fields.specs.Spelled.{spelled_u8, spelled_u32}
use Rattle.session_codec.specs.Spelling.{bit, spelled_filter, spelled_sweeps}
use Rattle.session_codec.specs.PutLaws.{puts_two}
use Rattle.session_codec.proofs.lists.put_sub.Goals as goal

pub returns : goal.returns
returns c =
    let s = c.sub.inside in
    let old = c.args.out.now.items in
    let between = c.put_numbers.new.out.items in
    rw (← c.sub.view_is) record {
      exact = puts_two old (spelled_u32 s.number ++ (spelled_u8 (bit s.live) ++ spelled_u32 s.version))
          (spelled_filter s.filter ++ spelled_sweeps s.sweeps.items) between c.put_filter_and_sweeps.new.out.items
          (c.in_ok-put_numbers.ensures.exact ∙ ap (λ n. old ++ (spelled_u32 s.number ++ (n ∷ spelled_u32 s.version))) c.bit-live.ensures)
          (c.in_ok-put_filter_and_sweeps.ensures.exact ∙ ap (λ l. between ++ (spelled_filter s.filter ++ spelled_sweeps l)) c.deref.ensures.value);
    }
