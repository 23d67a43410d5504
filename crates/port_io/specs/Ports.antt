-- What contracts see of the ports.
use Rattle.std.specs.Prelude.{ℕ}
use Rattle.port_io.specs.declared.ports.InputPort.{InputPort}
use Rattle.port_io.specs.declared.ports.OutputPort.{OutputPort}

-- the reader that a port wraps
abbrev pub reader_of : {R : Type 0} → InputPort R → R
reader_of p = p.reader

-- how many reads of a port have failed
abbrev pub input_faults : {R : Type 0} → InputPort R → ℕ
input_faults p = p.faults

-- the writer that a port wraps
abbrev pub writer_of : {W : Type 0} → OutputPort W → W
writer_of p = p.writer

-- how many writes of a port have failed
abbrev pub output_faults : {W : Type 0} → OutputPort W → ℕ
output_faults p = p.faults
