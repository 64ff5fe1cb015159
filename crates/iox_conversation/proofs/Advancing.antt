-- How a conversation goes on.
use Rattle.std.proofs.Common.{◌≡◌, ℕ, ◌+◌, ◌^◌, ◌<◌, ◌≤◌, ◌⊎◌, Bool, true, false, List, [], ◌∷◌, Option, IfSome, Result, Ok, Err, OnOk}
use Rattle.std.proofs.Common.{OnErr, IfErr, is_err, ◌++◌, ◌∙◌, length, take, refl, sym, ap, inl, inr, arith, append_assoc, length-append}
use Rattle.std.proofs.lemmas.List.{append-nil}
use Rattle.std.specs.Io.KnownBytes.{Appends, Consumes}
use Rattle.std.proofs.KnownBytes.{Consumes-whole}
use Rattle.iox_conversation.proofs.Shorthands.{heard}
use Rattle.iox_conversation.specs.Conversation.{Served, SessionState, Advances, StopsShort, Ends, IsConversation, Converses, AreBegun}
use Rattle.iox_conversation.specs.Conversation.{IsDue, BreaksOff, WritesABeginning}
use Rattle.iox_conversation.specs.declared.error.ServeError.{ServeError}
use Rattle.iox_conversation.specs.declared.error.ServeError.TheVariants.{WriteFault, OutOfMemory}
use Rattle.iox_conversation.proofs.LineLemmas.{is_unbroken, unbroken-append, heard-whole, heard-last, heard-cut}
use Rattle.iox_conversation.proofs.WholeLineLemmas.{heard_whole-done, heard_whole-more}

-- what answers some lines and then what answers more answers all of them
pub Served-append : {M : Type 0} (answers : M → List ℕ → List ℕ → M → Type 0) (old mid new : M) (lines more : List (List ℕ))
    (out next : List ℕ)
    → Served answers old lines out mid → Served answers mid more next new → Served answers old (lines ++ more) (out ++ next) new
Served-append answers old mid new [] more out next first second = rw first.0 (let e = first.1 in rw e at second)
Served-append answers old mid new (line ∷ lines) more out next first second = (
  first.0,
  first.1 ++ next,
  first.2,
  first.3,
  Served-append answers first.2 mid new lines more first.1 next first.4 second,
  rw first.5 (append_assoc first.0 (10 ∷ first.1) next),
)

-- no bytes came
pub Advances-none : {M : Type 0} (answers : M → List ℕ → List ℕ → M → Type 0) (used : M → ℕ) (old : SessionState M)
    → Advances answers used old [] [] old
Advances-none answers used old = record { done = []; served = (refl, refl); lines = λ rest. refl; counts = omega arith }

-- bytes came that belong to the line in progress
pub Advances-heard : {M : Type 0} (answers : M → List ℕ → List ℕ → M → Type 0) (used : M → ℕ) (old new : SessionState M) (part : List ℕ)
    → is_unbroken old.line ≡ true → is_unbroken part ≡ true
    → new.machine ≡ old.machine → new.line ≡ take 1025 (old.line ++ part) → Advances answers used old part [] new
Advances-heard answers used old new part unbroken more who line = record {
  done = [];
  served = (refl, who);
  lines = λ rest. rw line (ap heard (sym (append_assoc old.line part rest)) ∙ heard-cut (old.line ++ part) rest
      (unbroken-append old.line part unbroken more));
  counts = rw who (omega arith);
}

-- bytes and a newline came, and the line is answered
pub Advances-ended : {M : Type 0} (answers : M → List ℕ → List ℕ → M → Type 0) (used : M → ℕ) (old : SessionState M)
    (part text : List ℕ) (machine : M) → is_unbroken old.line ≡ true → is_unbroken part ≡ true
    → answers old.machine (take 1025 (old.line ++ part)) text machine → used machine ≤ used old.machine + 1
    → Advances answers used old (part ++ 10 ∷ []) (text ++ 10 ∷ []) (record { machine = machine; line = [] })
Advances-ended answers used old part text machine unbroken more answered counts = record {
  done = take 1025 (old.line ++ part) ∷ [];
  served = (text, [], machine, answered, (refl, refl), refl);
  lines = λ rest. rw (append_assoc part (10 ∷ []) rest, ← append_assoc old.line part (10 ∷ rest))
      (heard-whole (old.line ++ part) rest (unbroken-append old.line part unbroken more));
  counts = omega (arith, counts, length-append part (10 ∷ []));
}

-- the same, of a line that was put together before it was answered
pub Advances-put_together : {M : Type 0} (answers : M → List ℕ → List ℕ → M → Type 0) (used : M → ℕ) (old mid kept : SessionState M)
    (part text : List ℕ) (machine : M) → is_unbroken old.line ≡ true → is_unbroken part ≡ true
    → mid ≡ kept → kept.machine ≡ old.machine → kept.line ≡ take 1025 (old.line ++ part)
    → answers mid.machine mid.line text machine → used machine ≤ used mid.machine + 1
    → Advances answers used old (part ++ 10 ∷ []) (text ++ 10 ∷ []) (record { machine = machine; line = [] })
Advances-put_together {M} answers used old mid kept part text machine unbroken more same who line answered counts =
    let who_now : mid.machine ≡ old.machine = ap (λ (s : SessionState M). s.machine) same ∙ who in
    let line_now : mid.line ≡ take 1025 (old.line ++ part) = ap (λ (s : SessionState M). s.line) same ∙ line in
    Advances-ended answers used old part text machine unbroken more (rw (who_now, line_now) at answered) (rw who_now at counts)

-- one piece came after another
pub Advances-append : {M : Type 0} (answers : M → List ℕ → List ℕ → M → Type 0) (used : M → ℕ) (old mid new : SessionState M)
    (bytes more out next : List ℕ)
    → Advances answers used old bytes out mid → Advances answers used mid more next new
    → Advances answers used old (bytes ++ more) (out ++ next) new
Advances-append answers used old mid new bytes more out next first second = record {
  done = first.done ++ second.done;
  served = Served-append answers old.machine mid.machine new.machine first.done second.done out next first.served second.served;
  lines = λ rest. rw (append_assoc bytes more rest, first.lines (more ++ rest), second.lines rest)
      (sym (append_assoc first.done second.done (heard (new.line ++ rest))));
  counts = omega (arith, first.counts, second.counts, length-append bytes more);
}

-- what has no elements is empty
pub length-zero : (xs : List ℕ) → length xs ≡ 0 → xs ≡ []
length-zero [] h = refl
length-zero (x ∷ xs) h = absurd (omega (arith, h))

-- the input ended, and no line was in progress
pub Ends-empty : {M : Type 0} (answers : M → List ℕ → List ℕ → M → Type 0) (old : SessionState M) → length old.line ≡ 0
    → Ends answers old [] []
Ends-empty answers old empty = record { final = old.machine; served = rw (length-zero old.line empty) (refl, refl) }

-- the input ended, and the last line is answered
pub Ends-answered : {M : Type 0} (answers : M → List ℕ → List ℕ → M → Type 0) (old : SessionState M) (text : List ℕ) (machine : M)
    → 0 < length old.line → is_unbroken old.line ≡ true
    → length old.line ≤ 1025 → answers old.machine old.line text machine → Ends answers old [] (text ++ 10 ∷ [])
Ends-answered answers old text machine some unbroken short answered = record {
  final = machine;
  served = rw (append-nil old.line, heard-last old.line some unbroken short) (text, [], machine, answered, (refl, refl), refl);
}

-- a session from its start to its end is a conversation
pub IsConversation-ended : {M : Type 0} (answers : M → List ℕ → List ℕ → M → Type 0) (used : M → ℕ) (start : M)
    (session : SessionState M) (input out last : List ℕ)
    → Advances answers used (record { machine = start; line = [] }) input out session → Ends answers session [] last
    → IsConversation answers start input (out ++ last)
IsConversation-ended answers used start session input out last advances ends =
    let all = rw (append-nil input) at (advances.lines []) in (
      ends.final,
      rw all (Served-append answers start session.machine ends.final advances.done (heard (session.line ++ [])) out last
          advances.served ends.served),
    )

-- what a conversation from its start to the end of the input says of the bytes that were left
pub Converses-conversation : {M : Type 0} (answers : M → List ℕ → List ℕ → M → Type 0) (used : M → ℕ) (start : M)
    (left leaves held holds : Option (List ℕ))
    → Converses answers used (record { machine = start; line = [] }) left leaves held holds
    → IfSome left (λ bytes. (text : List ℕ) × Appends held holds text × IsConversation answers start bytes text)
Converses-conversation answers used start left leaves held holds all =
    Consumes-whole left leaves all.bytes (λ bytes. (text : List ℕ) × Appends held holds text × IsConversation answers start bytes text)
    all.consumed all.all
    (all.text ++ all.last, all.written, IsConversation-ended answers used start all.mid all.bytes all.text all.last all.advances all.ends)

-- and how many these were
pub Converses-few : {M : Type 0} (answers : M → List ℕ → List ℕ → M → Type 0) (used : M → ℕ) (old : SessionState M)
    (left leaves held holds : Option (List ℕ)) → Converses answers used old left leaves held holds
    → IfSome left (λ bytes. length bytes ≤ 2 ^ 36)
Converses-few answers used old left leaves held holds all =
    Consumes-whole left leaves all.bytes (λ bytes. length bytes ≤ 2 ^ 36) all.consumed all.all all.few

-- a conversation broke off where all that was read is answered
pub BreaksOff-answered : {M : Type 0} (answers : M → List ℕ → List ℕ → M → Type 0) (used : M → ℕ) (error : ServeError) (ended : Bool)
    (old mid : SessionState M) (left leaves held holds : Option (List ℕ)) (bytes text : List ℕ)
    → Consumes left leaves bytes → length bytes ≤ 2 ^ 36 → Appends held holds text → Advances answers used old bytes text mid
    → is_unbroken mid.line ≡ true
    → (error ≡ OutOfMemory → IsDue ended mid [] ⊎ ((bytes ≡ []) × (◌≡◌ {A = List ℕ} [] [])))
    → BreaksOff answers used error ended old left leaves held holds
BreaksOff-answered answers used error ended old mid left leaves held holds bytes text consumed few written advances whole due = record {
  bytes = bytes;
  text = text;
  piece = [];
  part = [];
  mid = mid;
  consumed = rw (append-nil bytes) consumed;
  few = rw (append-nil bytes) few;
  written = rw (append-nil text) written;
  advances = advances;
  whole = whole;
  short = omega arith;
  read = λ _. refl;
  begun = inl refl;
  due = due;
}

-- what holds on success holds of what follows from it
pub OnOk-follows : {A E P Q : Type 0} (result : Result A E) → (P → Q) → OnOk result P → OnOk result Q
OnOk-follows (Ok x) follows holds = follows holds
OnOk-follows (Err e) follows holds = tt

-- what holds anyway holds on an error
pub OnErr-holds : {A E P : Type 0} (result : Result A E) → P → OnErr result P
OnErr-holds (Ok x) holds = tt
OnErr-holds (Err e) holds = holds

-- and what holds of an error is followed by what says less of it
pub IfErr-follows : {A E Q : Type 0} {P : E → Type 0} (result : Result A E) → ((e : E) → P e → Q) → IfErr result P → OnErr result Q
IfErr-follows (Ok x) follows holds = tt
IfErr-follows (Err e) follows holds = follows e holds

-- what answers the lines that newlines end is a beginning of what answers the lines that were read whole, and so is a beginning of it
pub WritesABeginning-advanced : {M : Type 0} (answers : M → List ℕ → List ℕ → M → Type 0) (used : M → ℕ) (ended : Bool) (start : M)
    (mid : SessionState M) (left leaves held holds : Option (List ℕ))
    (read bytes more text written unwritten : List ℕ) → Advances answers used (record { machine = start; line = [] }) bytes text mid
    → is_unbroken mid.line ≡ true
    → read ≡ bytes ++ more → text ≡ written ++ unwritten → Consumes left leaves read → length read ≤ 2 ^ 36 → Appends held holds written
    → WritesABeginning answers ended start left leaves held holds
WritesABeginning-advanced answers used ended start mid left leaves held holds read bytes more text written unwritten advances unbroken
    all parts consumed few appended =
    let done = heard_whole-done bytes mid.line advances.done unbroken advances.lines in
    let others = heard_whole-more ended bytes more in
    record {
      read = read;
      written = written;
      unwritten = unwritten;
      lines = advances.done;
      others = others.0;
      final = mid.machine;
      consumed = consumed;
      few = few;
      appended = appended;
      whole = rw all (others.1 ∙ ap (λ l. l ++ others.0) done);
      served = rw parts at advances.served;
    }

-- the same where the input ended, and of its last line
pub WritesABeginning-ended : {M : Type 0} (answers : M → List ℕ → List ℕ → M → Type 0) (used : M → ℕ) (start : M) (mid : SessionState M)
    (left leaves held holds : Option (List ℕ))
    (bytes text part rest : List ℕ) → Advances answers used (record { machine = start; line = [] }) bytes text mid
    → Ends answers mid [] (part ++ rest)
    → Consumes left leaves (bytes ++ []) → length (bytes ++ []) ≤ 2 ^ 36 → Appends held holds (text ++ part)
    → WritesABeginning answers true start left leaves held holds
WritesABeginning-ended answers used start mid left leaves held holds bytes text part rest advances ends consumed few appended =
    let all = IsConversation-ended answers used start mid bytes text (part ++ rest) advances ends in
    record {
      read = bytes;
      written = text ++ part;
      unwritten = rest;
      lines = heard bytes;
      others = [];
      final = all.0;
      consumed = rw (append-nil bytes) at consumed;
      few = rw (append-nil bytes) at few;
      appended = appended;
      whole = sym (append-nil (heard bytes));
      served = rw (append_assoc text part rest) all.1;
    }

BreaksOff-begun : {M : Type 0} (answers : M → List ℕ → List ℕ → M → Type 0) (used : M → ℕ) (error : ServeError) (ended : Bool)
    (start : M) (left leaves held holds : Option (List ℕ))
    (broken : BreaksOff answers used error ended (record { machine = start; line = [] }) left leaves held holds)
    → (broken.part ≡ []) ⊎ ((error ≡ WriteFault) × AreBegun answers used ended broken.mid broken.piece broken.part)
    → WritesABeginning answers ended start left leaves held holds
BreaksOff-begun answers used error ended start left leaves held holds broken (inl none) =
    WritesABeginning-advanced answers used ended start broken.mid left leaves held holds (broken.bytes ++ broken.piece) broken.bytes
    broken.piece broken.text broken.text []
    broken.advances broken.whole refl (sym (append-nil broken.text)) broken.consumed broken.few
    (rw (none, append-nil broken.text) at broken.written)
BreaksOff-begun answers used error ended start left leaves held holds broken
    (inr (fault, (rest, inl (first, more, new, all, advances, unbroken)))) =
    WritesABeginning-advanced answers used ended start new left leaves held holds (broken.bytes ++ broken.piece) (broken.bytes ++ first)
    more
    (broken.text ++ (broken.part ++ rest)) (broken.text ++ broken.part) rest
    (Advances-append _ _ _ _ _ _ _ _ _ broken.advances advances) unbroken
    (rw all (sym (append_assoc broken.bytes first more))) (sym (append_assoc broken.text broken.part rest)) broken.consumed broken.few
    broken.written
BreaksOff-begun answers used error ended start left leaves held holds broken (inr (fault, (rest, inr (none, end, ends)))) =
    rw end (WritesABeginning-ended answers used start broken.mid left leaves held holds broken.bytes broken.text broken.part rest
    broken.advances ends (rw none at broken.consumed) (rw none at broken.few) broken.written)

-- where a conversation broke off, what was written is a beginning of what answers the lines that were read whole
pub BreaksOff-beginning : {M : Type 0} (answers : M → List ℕ → List ℕ → M → Type 0) (used : M → ℕ) (error : ServeError) (ended : Bool)
    (start : M) (left leaves held holds : Option (List ℕ))
    → BreaksOff answers used error ended (record { machine = start; line = [] }) left leaves held holds
    → WritesABeginning answers ended start left leaves held holds
BreaksOff-beginning answers used error ended start left leaves held holds broken =
    BreaksOff-begun answers used error ended start left leaves held holds broken broken.begun

-- what holds on success holds where it isn't an error, and what holds on an error holds where it is one
pub OnOk-told : {A E P : Type 0} (result : Result A E) → is_err result ≡ false → OnOk result P → P
OnOk-told (Ok x) ok holds = holds
OnOk-told (Err e) ok holds = absurd (cc)

pub OnErr-told : {A E P : Type 0} (result : Result A E) → is_err result ≡ true → OnErr result P → P
OnErr-told (Ok x) failed holds = absurd (cc)
OnErr-told (Err e) failed holds = holds

-- of what answers a piece, or its first lines, a beginning was written
pub AreBegun-told : {M A E : Type 0} (answers : M → List ℕ → List ℕ → M → Type 0) (used : M → ℕ) (ended : Bool)
    (old new : SessionState M) (piece before now part rest : List ℕ) (result : Result A E)
    → OnOk result ((text : List ℕ) × (now ≡ before ++ text) × Advances answers used old piece text new)
    → OnErr result ((text : List ℕ) × (now ≡ before ++ text) × StopsShort answers used old piece text)
    → is_unbroken new.line ≡ true → before ≡ [] → now ≡ part ++ rest → AreBegun answers used ended old piece part
AreBegun-told answers used ended old new piece before now part rest (Ok x) all stopped whole empty told =
    let text : all.0 ≡ part ++ rest = ap (λ items. items ++ all.0) (sym empty) ∙ (sym all.1 ∙ told) in
    (rest, inl (piece, [], new, sym (append-nil piece), rw text at all.2, whole))
AreBegun-told answers used ended old new piece before now part rest (Err e) all stopped whole empty told =
    let short = stopped.2 in
    let text : stopped.0 ≡ part ++ rest = ap (λ items. items ++ stopped.0) (sym empty) ∙ (sym stopped.1 ∙ told) in
    (rest, inl (short.first, short.more, short.mid, short.all, rw text at short.advances, short.whole))
