use Rattle.ecow_script.proofs.FirstExample.{first_read, first_answered, first_counted_read, first_counted}
use Rattle.ecow_script.proofs.example.first_example.Goals as goal

pub returns-clause-commands : goal.returns-clause-commands
returns-clause-commands c = first_read

pub returns-clause-answers : goal.returns-clause-answers
returns-clause-answers c = first_answered

pub returns-clause-vec_commands : goal.returns-clause-vec_commands
returns-clause-vec_commands c = first_counted_read

pub returns-clause-counted_answers : goal.returns-clause-counted_answers
returns-clause-counted_answers c = first_counted
