use Rattle.ecow_script.proofs.WordsAgain.{count_read, integer_read, byte_read, integers_read, bytes_read, text_read}
use Rattle.ecow_script.proofs.laws.answers_are_arguments.Goals as goal

pub returns-clause-counts : goal.returns-clause-counts
returns-clause-counts c = count_read

pub returns-clause-integers : goal.returns-clause-integers
returns-clause-integers c = integer_read

pub returns-clause-bytes : goal.returns-clause-bytes
returns-clause-bytes c = byte_read

pub returns-clause-lists : goal.returns-clause-lists
returns-clause-lists c = integers_read

pub returns-clause-lists_of_bytes : goal.returns-clause-lists_of_bytes
returns-clause-lists_of_bytes c = bytes_read

pub returns-clause-texts : goal.returns-clause-texts
returns-clause-texts c = text_read
