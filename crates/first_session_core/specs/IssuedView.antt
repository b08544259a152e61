-- What the fields of an issue mean.
use Rattle.first_session_core.specs.declared.issued.Issued.{Issued}
use Rattle.first_session_core.specs.declared.issued.Due.{Due}
use Rattle.first_session_core.specs.Pump as plain
use Rattle.first_session_core.specs.SessionView.{sweep_of}

abbrev pub issue_of_fields : Issued → plain.Issue
issue_of_fields i =
    record { subscription = 1; shard = 0; entries = i.entries.items; sweep = sweep_of i.base i.target i.position; packets = i.packets.items }

abbrev pub due_of_fields : Due → plain.Due
due_of_fields d = record { entry = d.entry; packet = d.packet }
