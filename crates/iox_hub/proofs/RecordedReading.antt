-- A run of commands, cut where a sample came and where it was read.
use Rattle.std.proofs.Common.{◌≡◌, ◌∙◌, ℕ, List, [], ◌∷◌, ◌++◌, length, refl, sym, ap, subst, arith, append-nil, length-append}
use Rattle.std.specs.Vec.{vec_items}
use Rattle.std.specs.Global.{Vec}
use Rattle.iox_command.specs.declared.command.Command.{Command}
use Rattle.iox_command.specs.declared.command.Command.TheVariants as command
use Rattle.iox_command.specs.declared.reply.Reply.{Reply}
use Rattle.iox_command.specs.declared.reply.Reply.TheVariants as reply
use Rattle.iox_hub_commands.specs.DescribeBase.declared.message_type.MessageTypeDetails.{MessageTypeDetails}
use Rattle.iox_machine.specs.Choices.{Choices}
use Rattle.iox_machine.specs.Run.{Runs, Step}
use Rattle.iox_machine.specs.RunLaws.{SamplesReadTheSame}
use Rattle.iox_machine.specs.State.{State, new_state}
use Rattle.iox_hub.specs.RecordedLaws.{ReadsAsReceived}

-- if two equal lists begin with parts of one length, these parts are equal, and so is what follows them
pub cancel : {X : Type 0} (a c b d : List X) → length a ≡ length c → a ++ b ≡ c ++ d → (a ≡ c) × (b ≡ d)
cancel [] [] b d long is = (refl, is)
cancel [] (y ∷ c) b d long is = absurd (omega (arith, long))
cancel (x ∷ a) [] b d long is = absurd (omega (arith, long))
cancel (x ∷ a) (y ∷ c) b d long is =
    let first : x ≡ y = cc in
    let behind : a ++ b ≡ c ++ d = cc in
    let (same, rest) = cancel a c b d (omega (arith, long)) behind in (cc, rest)

module _ {T : Type 0} (choices : Choices T) (types : MessageTypeDetails) (buffer : ℕ) where
  abbrev Goes : List (Command T) → State T → List (Reply T) → State T → Type 0
  Goes = Runs types choices buffer

  -- a run, cut after some commands
  pub record Cut (front back : List (Command T)) (old : State T) (answers : List (Reply T)) (new : State T) : Type 0 where
    pub early : List (Reply T)
    pub late : List (Reply T)
    pub mid : State T
    pub went : Goes front old early mid
    pub goes : Goes back mid late new
    pub are : answers ≡ early ++ late
    pub long : length early ≡ length front

  pub cut : (front back : List (Command T)) (old new : State T) (answers : List (Reply T)) → Goes (front ++ back) old answers new
      → Cut front back old answers new
  cut [] back old new answers runs = record {
    early = [];
    late = answers;
    mid = old;
    went = (refl, refl);
    goes = runs;
    are = refl;
    long = refl;
  }
  cut (one ∷ front) back old new answers (its, between, others, did, runs, is) =
      let rest = cut front back between new others runs in record {
        early = its ∷ rest.early;
        late = rest.late;
        mid = rest.mid;
        went = (its, between, rest.early, did, rest.went, refl);
        goes = rest.goes;
        are = is ∙ ap (λ (all : List (Reply T)). its ∷ all) rest.are;
        long = omega (arith, rest.long);
      }

  -- a run of one command
  pub one_step : (asked : Command T) (old new : State T) (answers : List (Reply T)) (answer : Reply T) → Goes (asked ∷ []) old answers new
      → answers ≡ answer ∷ [] → Step types choices buffer asked old answer new
  one_step asked old new answers answer (its, mid, rest, did, (none, same), is) are =
      let told : its ≡ answer = cc in
      subst (λ (it : Reply T). Step types choices buffer asked old it new) told
      (subst (λ (it : State T). Step types choices buffer asked old its it) (sym same) did)

  pub long_so : (asked : List (Command T)) (old new : State T) (answers : List (Reply T)) → Goes asked old answers new
      → length answers ≡ length asked
  long_so [] old new answers (none, same) = ap length none
  long_so (one ∷ asked) old new answers (its, mid, rest, did, runs, is) =
      let longer = long_so asked mid new rest runs in ap length is ∙ omega (arith, longer)

  pub read_so : SamplesReadTheSame choices → (before meanwhile : List (Command T)) (first told : List (Reply T)) (subscriber sample : ℕ)
      (values read : Vec T) (new : State T) → length first ≡ length before
      → Goes ((before ++ command.Receive subscriber ∷ []) ++ meanwhile ++ command.Read sample ∷ []) new_state
      ((first ++ reply.Received sample values ∷ []) ++ told ++ reply.Values read ∷ []) new
      → vec_items read ≡ vec_items values
  read_so the_same before meanwhile first told subscriber sample values read new long runs =
      let received = before ++ command.Receive subscriber ∷ [] in
      let answers = first ++ reply.Received sample values ∷ [] in
      let last = cut (received ++ meanwhile) (command.Read sample ∷ []) new_state new (answers ++ told ++ reply.Values read ∷ []) runs in
      let one = long_so (command.Read sample ∷ []) last.mid new last.late last.goes in
      let whole = ap length last.are in
      let (all, ends) = cancel (answers ++ told) last.early (reply.Values read ∷ []) last.late
      (omega (
        arith,
        whole,
        one,
        length-append (answers ++ told) (reply.Values read ∷ []),
        length-append last.early last.late,
      )) last.are in
      let then = cut received meanwhile new_state last.mid last.early last.went in
      let (both, between) = cancel answers then.early told then.late
      (omega (
        arith,
        long,
        then.long,
        length-append first (reply.Received sample values ∷ []),
        length-append before (command.Receive subscriber ∷ []),
      )) (all ∙ then.are) in
      let came = cut before (command.Receive subscriber ∷ []) new_state then.mid then.early then.went in
      let (begun, got) = cancel first came.early (reply.Received sample values ∷ []) came.late (omega (arith, long, came.long))
      (both ∙ came.are) in
      the_same types buffer before came.early came.mid came.went subscriber sample values then.mid
      (one_step (command.Receive subscriber) came.mid then.mid came.late (reply.Received sample values) came.goes (sym got))
      meanwhile then.late last.mid then.goes read new
      (one_step (command.Read sample) last.mid new last.late (reply.Values read) last.goes (sym ends))

pub reads_as_received : {T : Type 0} (choices : Choices T) → SamplesReadTheSame choices → ReadsAsReceived choices
reads_as_received choices the_same types buffer before meanwhile first told subscriber sample values read long
    (some, rest, new, are, none, runs) =
    read_so choices types buffer the_same before meanwhile first told subscriber sample values read new long
    (subst (λ asked. Runs types choices buffer asked new_state
    ((first ++ reply.Received sample values ∷ []) ++ told ++ reply.Values read ∷ []) new)
    (sym (are ∙ (ap (λ more. some ++ more) none ∙ append-nil some))) runs)
