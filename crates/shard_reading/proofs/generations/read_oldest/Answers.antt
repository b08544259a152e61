use Rattle.std.proofs.Common.{◌≡◌, ◌+◌, Err, length, subst, sym, ap, ◌∙◌, arith}
use Rattle.std.proofs.lemmas.Result.{err_from_is_err_and}
use Rattle.shard_index.specs.KeptIndex.{list_of}
use Rattle.shard_fold.specs.Fold.{Holds, generation_told, opened}
use Rattle.shard_disks.specs.PlainDisks.{outline}
use Rattle.shard_reading.specs.Giving.{IsWhy}
use Rattle.shard_reading.specs.Steps.{records_in}
use Rattle.shard_reading.proofs.LookLemmas.{looks_and}
use Rattle.shard_reading.proofs.RecordLemmas.{IsOpened, generation_reached, generation_then, opening_refused}
use Rattle.shard_reading.proofs.generations.read_oldest.Goals as goal

pub returns-in-Err-clause-exact : goal.returns-in-Err-clause-exact
returns-in-Err-clause-exact g c = λ told.
    subst (λ w. IsWhy w (generation_told (opened c.args.cut.slot c.args.cut) c.args.cut.slot (records_in (outline c.args.disks.now) c.args.cut.slot))) (sym c.refusal.ensures)
    (opening_refused (opened c.args.cut.slot c.args.cut) c.args.cut.slot c.deref.result.now (records_in (outline c.args.disks.now) c.args.cut.slot) c.in-Err.why c.in_ok-bytes.ensures.some
    (c.deref.ensures.value ∙ c.in_ok-bytes.ensures.bytes told) c.in-Err.ensures.exact)

pub returns-in_err-end-clause-exact : goal.returns-in_err-end-clause-exact
returns-in_err-end-clause-exact g c =
    let was : IsOpened g.D.Disk.state c.args.disks.now c.opening_bytes.new.disks (opened c.args.cut.slot c.args.cut) c.args.cut.slot c.deref.result.now (list_of c.in-Ok.index) (5 + c.len.result) = record {
      read = c.in_ok-bytes.ensures.looks.read;
      some = c.in_ok-bytes.ensures.some;
      is = λ told. c.deref.ensures.value ∙ c.in_ok-bytes.ensures.bytes told;
      holds = c.in-Ok.ensures.exact;
      at = omega (arith, c.len.ensures, c.in_ok-bytes.bytes.ok.0, ap length c.deref.ensures.value);
    } in
    let p = err_from_is_err_and c.from_residual-in_err-end.result c.from_residual-in_err-end.ensures.1 in rw (p.1, p.2)
    (generation_then (IsWhy c.in_err-end.field-0.0) g.D.Disk.state c.args.disks.now c.opening_bytes.new.disks (opened c.args.cut.slot c.args.cut) c.args.cut.slot c.deref.result.now (list_of c.in-Ok.index) (5 + c.len.result) was c.in_err-end.ensures.exact)

pub returns-in_err-end-clause-looks : goal.returns-in_err-end-clause-looks
returns-in_err-end-clause-looks g c =
    let p = err_from_is_err_and c.from_residual-in_err-end.result c.from_residual-in_err-end.ensures.1 in rw (p.1, p.2)
    (looks_and g.D.Disk.state c.args.disks.now c.opening_bytes.new.disks c.take_records.new.disks c.in_ok-bytes.bytes (Err c.in_err-end.field-0.0) c.in_ok-bytes.ensures.looks
    (record { read = c.in_err-end.ensures.looks.read; cause = c.in_err-end.ensures.looks.cause }))

pub returns-clause-exact : goal.returns-clause-exact
returns-clause-exact g c =
    let was : IsOpened g.D.Disk.state c.args.disks.now c.opening_bytes.new.disks (opened c.args.cut.slot c.args.cut) c.args.cut.slot c.deref.result.now (list_of c.in-Ok.index) (5 + c.len.result) = record {
      read = c.in_ok-bytes.ensures.looks.read;
      some = c.in_ok-bytes.ensures.some;
      is = λ told. c.deref.ensures.value ∙ c.in_ok-bytes.ensures.bytes told;
      holds = c.in-Ok.ensures.exact;
      at = omega (arith, c.len.ensures, c.in_ok-bytes.bytes.ok.0, ap length c.deref.ensures.value);
    } in
    generation_then (λ h. h ≡ Holds (list_of c.take_records.new.index)) g.D.Disk.state c.args.disks.now c.opening_bytes.new.disks (opened c.args.cut.slot c.args.cut) c.args.cut.slot c.deref.result.now (list_of c.in-Ok.index) (5 + c.len.result) was c.in_ok-end.ensures.exact

pub returns-clause-reached : goal.returns-clause-reached
returns-clause-reached g c =
    let was : IsOpened g.D.Disk.state c.args.disks.now c.opening_bytes.new.disks (opened c.args.cut.slot c.args.cut) c.args.cut.slot c.deref.result.now (list_of c.in-Ok.index) (5 + c.len.result) = record {
      read = c.in_ok-bytes.ensures.looks.read;
      some = c.in_ok-bytes.ensures.some;
      is = λ told. c.deref.ensures.value ∙ c.in_ok-bytes.ensures.bytes told;
      holds = c.in-Ok.ensures.exact;
      at = omega (arith, c.len.ensures, c.in_ok-bytes.bytes.ok.0, ap length c.deref.ensures.value);
    } in
    generation_reached g.D.Disk.state c.args.disks.now c.opening_bytes.new.disks (opened c.args.cut.slot c.args.cut) c.args.cut.slot c.deref.result.now (list_of c.in-Ok.index) (5 + c.len.result) c.take_records.new.index c.in_ok-end.end was c.in_ok-end.ensures.behind c.in_ok-end.ensures.room c.in_ok-end.ensures.few

pub returns-clause-looks : goal.returns-clause-looks
returns-clause-looks g c =
    looks_and g.D.Disk.state c.args.disks.now c.opening_bytes.new.disks c.take_records.new.disks c.in_ok-bytes.bytes _ c.in_ok-bytes.ensures.looks
    (record { read = c.in_ok-end.ensures.looks.read; cause = c.in_ok-end.ensures.looks.cause })
