-- The actions in the order of their codes (document 01, module 4; the standard's table), and what each call answers.
use Rattle.std.specs.Prelude.{ℕ, Bool, List, [], ◌∷◌, length, get_or, ltb}
use Rattle.bluebook.specs.Layouts.{actions, second_present}
use Rattle.refusal.specs.Answer.{Answer, gives, refuses, pick}
use Rattle.action.specs.declared.FilestoreActionCode.{FilestoreActionCode}
use Rattle.action.specs.declared.FilestoreActionCode.TheVariants.{CreateFile, DeleteFile, RenameFile, AppendFile, ReplaceFile, CreateDirectory, RemoveDirectory, DenyFile, DenyDirectory}

abbrev pub code_of : FilestoreActionCode → ℕ
code_of CreateFile = 0
code_of DeleteFile = 1
code_of RenameFile = 2
code_of AppendFile = 3
code_of ReplaceFile = 4
code_of CreateDirectory = 5
code_of RemoveDirectory = 6
code_of DenyFile = 7
code_of DenyDirectory = 8

abbrev pub codes : List FilestoreActionCode
codes =
    CreateFile ∷ DeleteFile ∷ RenameFile ∷ AppendFile ∷ ReplaceFile ∷ CreateDirectory ∷ RemoveDirectory ∷ DenyFile ∷ DenyDirectory ∷ []

-- the action of a code; any for a code that has none
unfoldable pub action_at : ℕ → FilestoreActionCode
action_at n = get_or codes n CreateFile

-- 7 with a code that no row of the table has
unfoldable pub action_of : ℕ → Answer FilestoreActionCode
action_of n = pick (ltb n (length actions)) (gives (action_at n)) (refuses 7 (n ∷ []))

-- whether the action has a second name: its row says so
abbrev pub due_of : FilestoreActionCode → Bool
due_of a = second_present (code_of a)
