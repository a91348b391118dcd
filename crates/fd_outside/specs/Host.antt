-- What the host's files and sink show: their counts of faults alone.
use Rattle.std.specs.Prelude.{ℕ}
use Rattle.fd_outside.specs.declared.host.HostFiles.{HostFiles}
use Rattle.fd_outside.specs.declared.host.HostSink.{HostSink}

-- how often a read has failed, whatever the name
abbrev pub read_faults : {Rt : Type 0} → HostFiles Rt → ℕ
read_faults h = h.faults

-- how often a write has failed
abbrev pub write_faults : {Rt : Type 0} → HostSink Rt → ℕ
write_faults h = h.faults
