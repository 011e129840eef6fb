use Rattle.layout.proofs.TwelveBytes.{written_reads, read_writes, refusal_placed}
use Rattle.layout.proofs.lawful.laws.Goals as goal

pub returns : goal.returns
returns c =
    record { written_reads = written_reads; read_writes = read_writes; refusal_placed = refusal_placed }
