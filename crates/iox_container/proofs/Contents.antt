use Rattle.std.proofs.Common.{Bool, ℕ, ◌≡◌, ◌+◌, ◌<◌, ◌≤◌, ◌++◌, List, length, take, drop, Result, Ok, Err, arith, refl, sym, ap, subst}
use Rattle.std.proofs.lemmas.List.{drop_at, take_at, length-append, length-drop, length-take-le}
use Rattle.std.proofs.lemmas.List.Elements.{All-drop, All-take}
use Rattle.std.specs.Prelude.{All, IsErrAnd, IsOk}
use Rattle.iox_container.specs.declared.string.error.StringModificationError.{StringModificationError}
use Rattle.iox_container.specs.declared.string.error.StringModificationError.TheVariants as changing
use Rattle.iox_container.specs.StringBytes.{IsStringByte, IsStringBytes}
use Rattle.iox_container.specs.Text.{AnswersInsertion, bytes_inserted}
use Rattle.iox_container.specs.declared.semantic_strings.error.SemanticStringError.{SemanticStringError}
use Rattle.iox_container.specs.declared.semantic_strings.error.SemanticStringError.TheVariants.{InvalidContent, ExceedsMaximumLength}
use Rattle.iox_container.specs.Accepted.{AnswersContent}
use Rattle.iox_container.specs.Refusals.{refusal_of}

abbrev err_of : (A : Type 0) → SemanticStringError → Result A SemanticStringError
err_of A e = Err e

abbrev ok_of : (A : Type 0) → A → Result A SemanticStringError
ok_of A a = Ok a

length-inserted : (text : List ℕ) (idx : ℕ) (bytes : List ℕ) → idx ≤ length text
    → length (bytes_inserted text idx bytes) ≡ length text + length bytes
length-inserted text idx bytes within =
    omega (
      arith,
      length-append (take idx text) (bytes ++ drop idx text),
      length-append bytes (drop idx text),
      length-take-le idx text
          within,
      length-drop idx text,
    )

-- bytes that were put into a string's are a string's too
inserted_part : (text : List ℕ) (idx : ℕ) (bytes : List ℕ) → IsStringBytes (bytes_inserted text idx bytes) → IsStringBytes bytes
inserted_part text idx bytes all =
    let A : List ℕ → Type 0 = λ xs. All IsStringByte xs in
    let behind : All IsStringByte (bytes ++ drop idx text) =
    subst A (drop_at (take idx text) (bytes ++ drop idx text) (length (take idx text)) refl)
    (All-drop IsStringByte (length (take idx text)) (bytes_inserted text idx bytes) all) in
    subst A (take_at bytes (drop idx text) (length bytes) refl) (All-take IsStringByte (length bytes) (bytes ++ drop idx text) behind)

-- where the string below refuses bytes, the content with them is refused as it should be
AnswersContent-refused : {A : Type 0} (capacity : ℕ) (content characters : List ℕ → Bool) (text : List ℕ) (idx : ℕ) (bytes : List ℕ)
    (e : StringModificationError)
    → AnswersInsertion capacity text bytes (Err e) → idx ≤ length text
    → AnswersContent {A = A} capacity content characters (bytes_inserted text idx bytes) (Err (refusal_of e))
AnswersContent-refused capacity content characters text idx bytes changing.InsertWouldExceedCapacity told within =
    let long : capacity < length text + length bytes = told.too_long.0 refl in
    let size : length (bytes_inserted text idx bytes) ≡ length text + length bytes = length-inserted text idx bytes within in
    record {
      accepted = (λ h. absurd (cc), λ h. absurd (omega (arith, h.0)));
      too_long = (λ _. omega arith, λ _. refl);
      invalid = (λ h. absurd (cc), λ h. absurd (omega (arith, h.0)));
    }
AnswersContent-refused capacity content characters text idx bytes changing.InvalidCharacter told within =
    let bad : (length text + length bytes ≤ capacity) × ¬ IsStringBytes bytes = told.invalid.0 refl in
    let size : length (bytes_inserted text idx bytes) ≡ length text + length bytes = length-inserted text idx bytes within in
    record {
      accepted = (λ h. absurd (cc), λ h. absurd (bad.1 (inserted_part text idx bytes h.1.bytes)));
      too_long = (λ h. absurd (cc), λ h. absurd (omega (arith, bad.0)));
      invalid = (λ _. (omega (arith, bad.0), λ a. bad.1 (inserted_part text idx bytes a.bytes)), λ _. refl);
    }

err_is : {A E : Type 0} (answer : Result A E) (e : E) → IsErrAnd answer (λ x. x ≡ e) → answer ≡ Err e
err_is (Ok x) e told = absurd told
err_is (Err x) e told = ap (λ y. Err y) told

-- the same, as the refusal is handed on
pub AnswersContent-insertion : {A : Type 0} (capacity : ℕ) (content characters : List ℕ → Bool) (text : List ℕ) (idx : ℕ)
    (bytes : List ℕ) (e : StringModificationError) (answer : Result A SemanticStringError)
    → AnswersInsertion capacity text bytes (Err e) → idx ≤ length text → IsErrAnd answer (λ x. x ≡ refusal_of e)
    → AnswersContent capacity content characters (bytes_inserted text idx bytes) answer
AnswersContent-insertion {A} capacity content characters text idx bytes e answer told within is =
    let P : Result A SemanticStringError → Type 0 = λ a. AnswersContent capacity content characters (bytes_inserted text idx bytes) a in
    subst P (sym (err_is answer (refusal_of e) is)) (AnswersContent-refused capacity content characters text idx bytes e told within)

-- a refusal handed on answers for the same content
pub AnswersContent-err : {A B : Type 0} (capacity : ℕ) (content characters : List ℕ → Bool) (text rest : List ℕ)
    (e : SemanticStringError) (answer : Result B SemanticStringError)
    → text ≡ rest → AnswersContent {A = A} capacity content characters text (Err e) → IsErrAnd answer (λ x. x ≡ e)
    → AnswersContent {A = B} capacity content characters rest answer
AnswersContent-err {A} {B} capacity content characters text rest e answer same told is =
    let P : Result B SemanticStringError → Type 0 = λ a. AnswersContent capacity content characters rest a in
    let here : AnswersContent {A = A} capacity content characters rest (Err e) =
    (let T : List ℕ → Type 0 = λ t. AnswersContent {A = A} capacity content characters t (Err e) in subst T same told) in
    subst P (sym (err_is answer e is)) (record {
      accepted = (λ h. absurd (cc), λ h. absurd (let bad : IsOk (err_of A e) = here.accepted.1 h in cc));
      too_long = (
        λ h. here.too_long.0 (let f : e ≡ ExceedsMaximumLength = cc in ap (err_of A) f),
        λ h. let f : err_of A e ≡ err_of A ExceedsMaximumLength = here.too_long.1 h in
            let g : e ≡ ExceedsMaximumLength = cc in ap (err_of B) g,
      );
      invalid = (
        λ h. here.invalid.0 (let f : e ≡ InvalidContent = cc in ap (err_of A) f),
        λ h. let f : err_of A e ≡ err_of A InvalidContent = here.invalid.1 h in
            let g : e ≡ InvalidContent = cc in ap (err_of B) g,
      );
    })

pub AnswersContent-ok : {A B : Type 0} (capacity : ℕ) (content characters : List ℕ → Bool) (text rest : List ℕ) (a : A) (b : B)
    → text ≡ rest → AnswersContent {A = A} capacity content characters text (Ok a)
    → AnswersContent {A = B} capacity content characters rest (Ok b)
AnswersContent-ok {A} {B} capacity content characters text rest a b same told =
    let here : AnswersContent {A = A} capacity content characters rest (Ok a) =
    (let T : List ℕ → Type 0 = λ t. AnswersContent {A = A} capacity content characters t (Ok a) in subst T same told) in
    record {
      accepted = (λ _. here.accepted.0 refl, λ _. refl);
      too_long = (λ h. absurd (cc), λ h. let bad : ok_of A a ≡ err_of A ExceedsMaximumLength = here.too_long.1 h in absurd (cc));
      invalid = (λ h. absurd (cc), λ h. let bad : ok_of A a ≡ err_of A InvalidContent = here.invalid.1 h in absurd (cc));
    }
