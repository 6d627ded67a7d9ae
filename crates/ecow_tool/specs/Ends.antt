-- How the program ends: which end a fault is, the exit status, and what is printed to standard
-- error.
use Rattle.std.specs.Prelude.{ℕ, List, [], ◌++◌, codes}
use Rattle.std.specs.Fmt.{decimal}
use Rattle.ecow_tool.specs.declared.program.End.{End}
use Rattle.ecow_tool.specs.declared.program.End.TheVariants as program
use Rattle.ecow_tool.specs.declared.program.Exit.{Exit}
use Rattle.ecow_tool.specs.declared.program.Exit.TheVariants.{After, Usage}
use Rattle.ecow_script.specs.Reasons.{reason_text}
use Rattle.ecow_script.specs.declared.reason.Reason.{Reason}
use Rattle.ecow_script.specs.declared.script.Fault.{Fault}
use Rattle.ecow_script.specs.declared.script.Fault.TheVariants as script

-- the end that a fault of a script gives
abbrev pub end_for : Fault → End
end_for (script.Unreadable line reason) = program.Unreadable line reason
end_for script.Memory = program.Memory

-- 0 where the script was run, 1 where it can't be, and 3 where something around it failed
abbrev pub status_after : End → ℕ
status_after program.Done = 0
status_after (program.Unreadable line reason) = 1
status_after program.NotUtf8 = 1
status_after program.File = 3
status_after program.TooLarge = 3
status_after program.Memory = 3
status_after program.Output = 3

-- and 2 where the program was not used as it is to be
abbrev pub status_of : Exit → ℕ
status_of Usage = 2
status_of (After end) = status_after end

-- what an end says
abbrev pub end_text : End → List ℕ
end_text program.Done = []
end_text (program.Unreadable line reason) =
    codes "line " ++ decimal line ++ codes ": " ++ reason_text reason
end_text program.NotUtf8 = codes "not UTF-8"
end_text program.File = codes "file"
end_text program.TooLarge = codes "too large"
end_text program.Memory = codes "memory"
end_text program.Output = codes "output"

-- all that is printed to standard error: nothing after a script that was run, and else one line
abbrev pub exit_text : Exit → List ℕ
exit_text Usage = codes "usage: ecow-run [--counted] FILE\n"
exit_text (After program.Done) = []
exit_text (After end) = codes "ecow-run: " ++ end_text end ++ codes "\n"

-- what is printed where a line doesn't fit
abbrev pub unreadable_text : ℕ → Reason → List ℕ
unreadable_text line reason = exit_text (After (program.Unreadable line reason))
