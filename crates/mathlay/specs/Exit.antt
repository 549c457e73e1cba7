-- With which exit status the program ends.
use Rattle.std.specs.Prelude.{◌≡◌, Option}
use Rattle.std.specs.Process.{exit_status}
use Rattle.std.specs.declared.process.ExitCode.{ExitCode}
use Rattle.doc_io.specs.Causes.{InputsTold, SinkTold}
use Rattle.command_words.specs.Command.{Asked}
use Rattle.commands.specs.Ends.{Ends}
use Rattle.input_files.specs.Status.{number_of}
use Rattle.input_files.specs.declared.status.Status.{Status}

-- a run that was asked for this ended, and the program ends with the number of its status
pub record Exits (asked : Option Asked) (before after : InputsTold)
    (old new : SinkTold) (code : ExitCode) : Type 0 where
  pub status : Status
  pub ends : Ends asked before after old new status
  pub number : exit_status code ≡ number_of status
