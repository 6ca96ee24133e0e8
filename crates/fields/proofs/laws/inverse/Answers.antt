use Rattle.fields.proofs.Inverses.{reads_what_was_put, puts_what_was_read, keeps_others, reads_the_row_put, puts_the_row_read}
use Rattle.fields.proofs.laws.inverse.Goals as goal

pub returns : goal.returns
returns c =
    record {
      read_put = reads_what_was_put;
      put_read = puts_what_was_read;
      others = keeps_others;
      row_put = reads_the_row_put;
      row_read = puts_the_row_read;
    }
