-- Demand 2, entire: written reads back, and complete is rewritten. Assumes nothing.
use Rattle.writer_spec.specs.Demand2.{Demand2}
use Rattle.writer_spec.proofs.RulesKept.{time_written_lem}
use Rattle.writer_spec.proofs.ReadsBack.{reads_back_lem}
use Rattle.writer_spec.proofs.Taking.{nothing_else_lem, refused_by_row}
use Rattle.writer_spec.proofs.Rewriting.{rewritten}
use Rattle.writer_spec.proofs.BitsKept.{status_bits_lem, mode_bits_lem}
use Rattle.writer_spec.proofs.Relaying.{relay}

pub demand_2 : Demand2
demand_2 =
    record {
      reads_back = reads_back_lem;
      nothing_else = nothing_else_lem;
      time_written = time_written_lem;
      rows = refused_by_row;
      rewritten = rewritten;
      status_bits = status_bits_lem;
      mode_bits = mode_bits_lem;
      relayed = relay;
    }
