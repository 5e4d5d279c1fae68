use Rattle.panel_file.proofs.Written.{record_reads_back, others_stay, file_reads_back}
use Rattle.panel_file.proofs.writing.written_records_read_back.Goals as goal

pub returns : goal.returns
returns c = record { written = record_reads_back; others = others_stay; file = file_reads_back }
