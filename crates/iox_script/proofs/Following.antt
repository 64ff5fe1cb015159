-- A script answers lines as the machine does.
use Rattle.std.proofs.Common.{ℕ, ◌≡◌, ◌<◌, ◌≤◌, ◌^◌, ◌⊎◌, ◌∷◌, ◌++◌, ◌∙◌, Bool, true, false, List, [], Option, None, Some, IfSome}
use Rattle.std.proofs.Common.{OnOk, IfErr, codes, length, refl, sym, ap, inl, inr, arith, append_assoc, length-append, Result, Ok, Err}
use Rattle.std.specs.Io.KnownBytes.{Appends}
use Rattle.std.specs.List.{AllZip}
use Rattle.iox_conversation.proofs.Shorthands.{heard}
use Rattle.iox_conversation.proofs.LineLemmas.{is_unbroken}
use Rattle.iox_conversation.proofs.WholeLineLemmas.{heard_whole-done, heard_whole-more}
use Rattle.iox_conversation.specs.Conversation.{AreBegun, BreaksOff, IsConversation, IsDue, Served, SessionState}
use Rattle.iox_conversation.specs.Lines.{heard_whole}
use Rattle.iox_conversation.specs.declared.error.ServeError.{ServeError}
use Rattle.iox_conversation.specs.declared.error.ServeError.TheVariants.{WriteFault}
use Rattle.iox_hub_commands.specs.Command.declared.command.Command.{Command}
use Rattle.iox_hub_commands.specs.Command.declared.reply.Reply.{Reply}
use Rattle.iox_hub_commands.specs.Asked.{types_of}
use Rattle.iox_hub_commands.specs.HubBase.declared.hub.HubConfig.{HubConfig}
use Rattle.iox_hub_commands.specs.Numbers.{IsNew, numbers_used}
use Rattle.iox_hub_commands.specs.Runs.{Runs}
use Rattle.iox_hub_machine.specs.RunLaws.{RunAnswers, all_asked, names_in}
use Rattle.iox_line.specs.LineFault.{fault_text}
use Rattle.iox_line.specs.Outcome.{Answers, IsReadAs}
use Rattle.iox_line.specs.ReplyText.{reply_text}
use Rattle.iox_line.specs.declared.error.LineError.{LineError}
use Rattle.iox_line.specs.declared.error.LineError.TheVariants as fault
use Rattle.iox_script.proofs.Breaking.{due-longer, whole-at_end, whole-by}
use Rattle.iox_script.proofs.Counted.{asked-heard, asked-whole, commands_among}
use Rattle.iox_script.specs.Answered.{AnswersAsNewMachine, BeginsAsNewMachine, NewMachineMayReply, reply_lines}
use Rattle.iox_script.specs.Conversation.{AnswersLine, AnswersRead, IsNewScript, ScriptHub, ScriptStep, script_terms}
use Rattle.iox_script.specs.declared.script.Script.{Script}
use Rattle.iox_machine.specs.Choices.{as_named}
use Rattle.iox_machine.specs.Run as machine
use Rattle.iox_negotiate_machine.specs.Laws.{HaveOwnHashes}

-- the law of runs, of hubs that scripts drive
abbrev pub ScriptRunsAnswer : Type 0
ScriptRunsAnswer = RunAnswers script_terms

-- what lines are read as, a run of the commands among them, and the text of its replies and of the faults
abbrev IsRunOfLines : List (List ℕ) → ScriptHub → List ℕ → ScriptHub → Type 0
IsRunOfLines lines old text new =
    (reads : List (Result (Command ℕ) LineError)) × (replies : List (Reply ℕ)) × AllZip IsReadAs lines reads
    × Runs ScriptStep (commands_among reads) old replies new
    × (text ≡ reply_lines reads replies)

-- the line of a fault
fault_line : (why : LineError) (reads : List (Result (Command ℕ) LineError)) (replies : List (Reply ℕ))
    → reply_lines (Err why ∷ reads) replies ≡ (codes "err " ++ fault_text why) ++ (10 ∷ reply_lines reads replies)
fault_line fault.Faulty reads replies = refl
fault_line fault.TooLong reads replies = refl

-- a line is answered before others
run_of_line : (read : Result (Command ℕ) LineError) (line : List ℕ) (lines : List (List ℕ)) (old mid new : ScriptHub)
    (text rest : List ℕ) → Answers line (Ok read) → AnswersRead read old text mid → IsRunOfLines lines mid rest new
    → IsRunOfLines (line ∷ lines) old (text ++ (10 ∷ rest)) new
run_of_line (Ok command) line lines old mid new text rest is answered more = (
  Ok command ∷ more.0,
  answered.0 ∷ more.1,
  (is, more.2),
  (answered.0, mid, more.1, answered.1, more.3, refl),
  rw (answered.2, more.4) refl,
)
run_of_line (Err why) line lines old mid new text rest is answered more =
    let same = answered.1 in (
      Err why ∷ more.0,
      more.1,
      (is, more.2),
      rw same at more.3,
      rw (answered.0, more.4) (sym (fault_line why more.0 more.1)),
    )

-- lines are answered by a run
run_of_lines : (old new : Script) (lines : List (List ℕ)) (text : List ℕ) → Served AnswersLine old lines text new
    → IsRunOfLines lines old.hub text new.hub
run_of_lines old new [] text served = ([], [], tt, (refl, ap (λ (script : Script). script.hub) served.1), served.0)
run_of_lines old new (line ∷ lines) text served =
    rw served.5 (run_of_line served.3.0 line lines old.hub served.2.hub new.hub served.0 served.1 served.3.1 served.3.2
    (run_of_lines served.2 new lines served.1 served.4))

-- a run has one reply to each command
replies-many : (commands : List (Command ℕ)) (old new : ScriptHub) (replies : List (Reply ℕ)) → Runs ScriptStep commands old replies new
    → length replies ≡ length commands
replies-many [] old new replies run = rw run.0 refl
replies-many (command ∷ commands) old new replies run =
    omega (arith, ap (λ (all : List (Reply ℕ)). length all) run.5, replies-many commands run.1 new run.2 run.4)

never_stops : {A : Type 0} → false ≡ true → A
never_stops same = absurd (differ same)
  where
    differ : false ≡ true → ⊥
    differ e = cc

-- what a new hub replied to the commands that lines spell is what a new machine may reply
replies_as_new_machine : ScriptRunsAnswer → (config : HubConfig) (old new : ScriptHub) (lines : List (List ℕ))
    (reads : List (Result (Command ℕ) LineError)) (replies : List (Reply ℕ)) → IsNew config old → AllZip IsReadAs lines reads
    → Runs ScriptStep (commands_among reads) old replies new
    → all_asked (commands_among reads) < 2 ^ 56
    → HaveOwnHashes (names_in (commands_among reads))
    → machine.Answers (types_of (codes "u64") 8 8 (codes "u64") 8 8) (as_named (λ value. value ≡ 0)) config.expired_connection_buffer
    (commands_among reads) false replies
replies_as_new_machine law config old new lines reads replies is are run few = λ own.
    law config (commands_among reads) old new replies false run (λ stopped. never_stops stopped)
    (record {
      failed = λ strategy handler named answered info is. is;
      full = λ strategy handler named info decision is. is;
    })
    (λ named answered info is. is) is own few

-- what a new hub answered to lines is what a new machine may answer
answers_as_new_machine : ScriptRunsAnswer → (config : HubConfig) (script final : Script) (lines : List (List ℕ)) (text : List ℕ)
    → IsNewScript config script → Served AnswersLine script lines text final
    → ((reads : List (Result (Command ℕ) LineError)) → AllZip IsReadAs lines reads → all_asked (commands_among reads) < 2 ^ 56)
    → AnswersAsNewMachine config.expired_connection_buffer lines text
answers_as_new_machine law config script final lines text new served few =
    let run = run_of_lines script final lines text served in (
      run.0,
      run.1,
      run.2,
      run.4,
      (
        replies-many (commands_among run.0) script.hub final.hub run.1 run.3,
        replies_as_new_machine law config script.hub final.hub lines run.0 run.1 new run.2 run.3 (few run.0 run.2),
      ),
    )

-- so it is of a conversation
pub conversation_as_new_machine : ScriptRunsAnswer → (config : HubConfig) (script : Script) (left held holds : Option (List ℕ))
    (result : Result (Unit {0}) ServeError) → IsNewScript config script
    → OnOk result (IfSome left (λ bytes. (text : List ℕ) × Appends held holds text × IsConversation AnswersLine script bytes text))
    → OnOk result (IfSome left (λ bytes. length bytes ≤ 2 ^ 36))
    → OnOk result (IfSome left
    (λ bytes. (text : List ℕ) × Appends held holds text × AnswersAsNewMachine config.expired_connection_buffer (heard bytes) text))
conversation_as_new_machine law config script (Some bytes) held holds (Ok done) new said few = (
  said.0,
  said.1,
  answers_as_new_machine law config script said.2.0 (heard bytes) said.0 new said.2.1
      (λ reads are. omega (arith, few, asked-heard bytes reads are)),
)
conversation_as_new_machine law config script None held holds (Ok done) new said few = tt
conversation_as_new_machine law config script left held holds (Err error) new said few = tt

-- A text is what a new machine may answer to lines, and one more is what it may go on to answer to the lines after them.
abbrev GoesOnAsNewMachine : ℕ → List (List ℕ) → List ℕ → List (List ℕ) → List ℕ → Type 0
GoesOnAsNewMachine buffer lines text behind more =
    (reads : List (Result (Command ℕ) LineError)) × (later : List (Result (Command ℕ) LineError)) × (replies : List (Reply ℕ))
    × AllZip IsReadAs lines reads × AllZip IsReadAs behind later × (text ≡ reply_lines reads replies)
    × (text ++ more ≡ reply_lines (reads ++ later) replies) × NewMachineMayReply buffer (reads ++ later) replies

-- what lines and those after them are read as, a run of the commands among them all, and the texts of its replies and of the faults
abbrev IsRunOnward : List (List ℕ) → ScriptHub → List ℕ → List (List ℕ) → ScriptHub → List ℕ → Type 0
IsRunOnward lines old text behind new more =
    (reads : List (Result (Command ℕ) LineError)) × (later : List (Result (Command ℕ) LineError)) × (replies : List (Reply ℕ))
    × AllZip IsReadAs lines reads × AllZip IsReadAs behind later × Runs ScriptStep (commands_among (reads ++ later)) old replies new
    × (text ≡ reply_lines reads replies) × (text ++ more ≡ reply_lines (reads ++ later) replies)

-- a line is answered before others
onward_of_line : (read : Result (Command ℕ) LineError) (line : List ℕ) (lines behind : List (List ℕ)) (old mid new : ScriptHub)
    (text rest more : List ℕ) → Answers line (Ok read) → AnswersRead read old text mid → IsRunOnward lines mid rest behind new more
    → IsRunOnward (line ∷ lines) old (text ++ (10 ∷ rest)) behind new more
onward_of_line (Ok command) line lines behind old mid new text rest more is answered on = (
  Ok command ∷ on.0,
  on.1,
  answered.0 ∷ on.2,
  (is, on.3),
  on.4,
  (answered.0, mid, on.2, answered.1, on.5, refl),
  rw (answered.2, on.6) refl,
  append_assoc text (10 ∷ rest) more ∙ (ap (λ l. l ++ (10 ∷ (rest ++ more))) answered.2
      ∙ ap (λ l. reply_text answered.0 ++ (10 ∷ l)) on.7),
)
onward_of_line (Err why) line lines behind old mid new text rest more is answered on =
    let same = answered.1 in (
      Err why ∷ on.0,
      on.1,
      on.2,
      (is, on.3),
      on.4,
      rw same at on.5,
      rw (answered.0, on.6) (sym (fault_line why on.0 on.2)),
      append_assoc text (10 ∷ rest) more ∙ (ap (λ l. l ++ (10 ∷ (rest ++ more))) answered.0
          ∙ (ap (λ l. (codes "err " ++ fault_text why) ++ (10 ∷ l)) on.7 ∙ sym (fault_line why (on.0 ++ on.1) on.2))),
    )

no_lines : (replies : List (Reply ℕ)) → reply_lines [] replies ≡ []
no_lines [] = refl
no_lines (reply ∷ replies) = refl

-- no line is answered before others
onward_of_none : (behind : List (List ℕ)) (old mid new : ScriptHub) (text more : List ℕ) → mid ≡ old → text ≡ []
    → IsRunOfLines behind mid more new → IsRunOnward [] old text behind new more
onward_of_none behind old mid new text more same none run = (
  [],
  run.0,
  run.1,
  tt,
  run.2,
  rw same at run.3,
  none ∙ sym (no_lines run.1),
  rw none run.4,
)

-- lines and those after them are answered by a run
onward_of_lines : (old mid new : Script) (lines behind : List (List ℕ)) (text more : List ℕ) → Served AnswersLine old lines text mid
    → Served AnswersLine mid behind more new → IsRunOnward lines old.hub text behind new.hub more
onward_of_lines old mid new [] behind text more served next =
    onward_of_none behind old.hub mid.hub new.hub text more (ap (λ (script : Script). script.hub) served.1) served.0
    (run_of_lines mid new behind more next)
onward_of_lines old mid new (line ∷ lines) behind text more served next =
    rw served.5 (onward_of_line served.3.0 line lines behind old.hub served.2.hub new.hub served.0 served.1 more served.3.1 served.3.2
    (onward_of_lines served.2 mid new lines behind served.1 more served.4 next))

are-append : (lines behind : List (List ℕ)) (reads later : List (Result (Command ℕ) LineError)) → AllZip IsReadAs lines reads
    → AllZip IsReadAs behind later → AllZip IsReadAs (lines ++ behind) (reads ++ later)
are-append [] behind [] later are more = more
are-append (line ∷ lines) behind (read ∷ reads) later are more = (are.0, are-append lines behind reads later are.1 more)
are-append [] behind (read ∷ reads) later are more = absurd are
are-append (line ∷ lines) behind [] later are more = absurd are

-- what a new hub answered to lines, and to those after them, is what a new machine may go on to answer
goes_on_as_new_machine : ScriptRunsAnswer → (config : HubConfig) (script mid final : Script) (lines behind : List (List ℕ))
    (text more : List ℕ) → IsNewScript config script → Served AnswersLine script lines text mid → Served AnswersLine mid behind more final
    → ((reads : List (Result (Command ℕ) LineError)) → AllZip IsReadAs (lines ++ behind) reads → all_asked (commands_among reads) < 2 ^ 56)
    → GoesOnAsNewMachine config.expired_connection_buffer lines text behind more
goes_on_as_new_machine law config script mid final lines behind text more new served next few =
    let on = onward_of_lines script mid final lines behind text more served next in
    let are = are-append lines behind on.0 on.1 on.3 on.4 in (
      on.0,
      on.1,
      on.2,
      on.3,
      on.4,
      on.6,
      on.7,
      (
        replies-many (commands_among (on.0 ++ on.1)) script.hub final.hub on.2 on.5,
        replies_as_new_machine law config script.hub final.hub (lines ++ behind) (on.0 ++ on.1) on.2 new are on.5 (few (on.0 ++ on.1) are),
      ),
    )

-- a conversation on a new hub that broke off
abbrev Broken : Script → ServeError → Bool → Option (List ℕ) → Option (List ℕ) → Option (List ℕ) → Option (List ℕ) → Type 0
Broken script error ended left leaves held holds =
    BreaksOff AnswersLine (λ script. numbers_used script.hub) error ended (record { machine = script; line = [] }) left leaves held holds

-- a line that has to be answered next is left, or nothing was read
line-left : (ended : Bool) (mid : SessionState Script) (bytes piece : List ℕ) (done lines others : List (List ℕ)) → is_unbroken mid.line
    ≡ true
    → ((rest : List ℕ) → heard (bytes ++ rest) ≡ done ++ heard (mid.line ++ rest))
    → heard_whole ended (bytes ++ piece) ≡ heard_whole false bytes ++ (lines ++ others)
    → IsDue ended mid piece ⊎ ((bytes ≡ []) × (piece ≡ [])) → (0 < length (lines ++ others)) ⊎ ((bytes ≡ []) × (piece ≡ []))
line-left ended mid bytes piece done lines others unbroken heards whole (inl due) = inl (omega (
  arith,
  due-longer ended bytes piece mid.line done unbroken heards due,
  ap (λ (all : List (List ℕ)). length all) whole,
  length-append (heard_whole false bytes) (lines ++ others),
))
line-left ended mid bytes piece done lines others unbroken heards whole (inr none) = inr none

-- what a new hub wrote before it broke off is what a new machine may, and a beginning of what it may answer to the lines after
begins_on_lines : ScriptRunsAnswer → (config : HubConfig) (script : Script) (error : ServeError) (ended : Bool)
    (left leaves held holds : Option (List ℕ)) → IsNewScript config script
    → (broken : Broken script error ended left leaves held holds) → (final : Script) (lines others : List (List ℕ)) (rest : List ℕ)
    → Served AnswersLine broken.mid.machine lines (broken.part ++ rest) final
    → heard_whole ended (broken.bytes ++ broken.piece) ≡ heard_whole false broken.bytes ++ (lines ++ others)
    → (broken.part ≡ []) ⊎ (error ≡ WriteFault)
    → BeginsAsNewMachine config.expired_connection_buffer error ended left leaves held holds
begins_on_lines law config script error ended left leaves held holds new broken final lines others rest served whole fault =
    let done = heard_whole-done broken.bytes broken.mid.line broken.advances.done broken.whole broken.advances.lines in
    let all = whole ∙ sym (append_assoc (heard_whole false broken.bytes) lines others) in
    record {
      read = broken.bytes;
      piece = broken.piece;
      text = broken.text;
      begun = broken.part;
      unwritten = rest;
      lines = lines;
      others = others;
      consumed = broken.consumed;
      short = broken.short;
      appended = broken.written;
      whole = whole;
      answered = goes_on_as_new_machine law config script broken.mid.machine final (heard_whole false broken.bytes) lines broken.text
          (broken.part ++ rest) new (rw done broken.advances.served) served
          (λ reads are. omega (
            arith,
            broken.few,
            asked-whole ended (broken.bytes ++ broken.piece) (heard_whole false broken.bytes ++ lines) others reads all are,
          ));
      read_fault = broken.read;
      write_fault = fault;
      out_of_memory = λ wanting. line-left ended broken.mid broken.bytes broken.piece broken.advances.done lines others broken.whole
          broken.advances.lines whole (broken.due wanting);
    }

begins_by : ScriptRunsAnswer → (config : HubConfig) (script : Script) (error : ServeError) (ended : Bool)
    (left leaves held holds : Option (List ℕ)) → IsNewScript config script
    → (broken : Broken script error ended left leaves held holds)
    → (broken.part ≡ []) ⊎ ((error ≡ WriteFault)
    × AreBegun AnswersLine (λ script. numbers_used script.hub) ended broken.mid broken.piece broken.part)
    → BeginsAsNewMachine config.expired_connection_buffer error ended left leaves held holds
begins_by law config script error ended left leaves held holds new broken (inl none) =
    let others = heard_whole-more ended broken.bytes broken.piece in
    begins_on_lines law config script error ended left leaves held holds new broken broken.mid.machine [] others.0 []
    (rw none refl, refl) others.1 (inl none)
begins_by law config script error ended left leaves held holds new broken (inr (fault, (rest, inl more))) =
    let whole = whole-by ended broken.bytes broken.piece more.0 more.1 broken.mid.line more.2.line broken.advances.done more.4.done
    broken.whole more.5 more.3 broken.advances.lines more.4.lines in
    begins_on_lines law config script error ended left leaves held holds new broken more.2.machine more.4.done whole.0 rest
    more.4.served whole.1 (inr fault)
begins_by law config script error ended left leaves held holds new broken (inr (fault, (rest, inr last))) =
    begins_on_lines law config script error ended left leaves held holds new broken last.2.final (heard (broken.mid.line ++ [])) [] rest
    last.2.served
    (whole-at_end ended broken.bytes broken.piece broken.mid.line broken.advances.done broken.whole last.0 last.1 broken.advances.lines)
    (inr fault)

-- what a conversation on a new hub wrote that broke off is what a new machine may have written
pub breaks_off_as_new_machine : ScriptRunsAnswer → (config : HubConfig) (script : Script) (error : ServeError) (ended : Bool)
    (left leaves held holds : Option (List ℕ)) → IsNewScript config script → Broken script error ended left leaves held holds
    → BeginsAsNewMachine config.expired_connection_buffer error ended left leaves held holds
breaks_off_as_new_machine law config script error ended left leaves held holds new broken =
    begins_by law config script error ended left leaves held holds new broken broken.begun

-- so it is of what is said of each error
pub IfErr-each : {A E : Type 0} {P Q : E → Type 0} (result : Result A E) → ((e : E) → P e → Q e) → IfErr result P → IfErr result Q
IfErr-each (Ok x) follows holds = tt
IfErr-each (Err e) follows holds = follows e holds
