-- A segment keeps its capacity, whichever nodes are added and removed; and a publication says how much it is.
use Rattle.std.proofs.Common.{List}
use Rattle.std.proofs.Common.{◌≡◌, ℕ, ◌-◌, ◌^◌, Bool, true, false, cond, not, ◌&&◌, Option, None, Some, Result, Ok, Err, nat_eq, nat_lt}
use Rattle.std.proofs.Common.{refl, sym, ap, subst, ◌∙◌, inl, inr}
use Rattle.std.specs.Prelude.{codes}
use Rattle.std.specs.declared.alloc.AllocError.{AllocError}
use Rattle.serde_json.specs.Data.{Data}
use Rattle.serde_json.specs.Find.{get}
use Rattle.serde_json.specs.Read.{read}
use Rattle.iox_negotiate_table.specs.DescribeSettings.Agreement.{Agreement, max_nodes_of}
use Rattle.iox_negotiate_table.specs.DescribeSettings.declared.static_config.Settings.{Settings}
use Rattle.iox_negotiate_table.specs.DescribeSettings.declared.static_config.Settings.TheVariants.{RequestResponse, PublishSubscribe, Event}
use Rattle.iox_negotiate_table.specs.Describe.Line.{tree, settings_tree, natural, Spells}
use Rattle.iox_negotiate_table.specs.DescribeSettings.declared.description.Version.{Version}
use Rattle.iox_negotiate_table.specs.DescribeSettings.declared.description.Version.TheVariants.{One, Two}
use Rattle.iox_negotiate_table.specs.Describe.Within.{IsWithinLimits}
use Rattle.iox_negotiate_table.proofs.Describe.Plain.{line-read}
use Rattle.iox_negotiate_table.specs.NegotiateBase.declared.answer.OpenSegmentAnswer.{OpenSegmentAnswer}
use Rattle.iox_negotiate_table.specs.declared.node.Node.{Node}
use Rattle.iox_negotiate_table.specs.declared.segment.Segment.{Segment}
use Rattle.iox_negotiate_table.specs.declared.segment.Segment.TheVariants.{Open, Emptied}
use Rattle.iox_negotiate_table.specs.Nodes.{Nodes, count_in, factories_of, with_factories, without_node, less_one, left, has_foreign}
use Rattle.iox_negotiate_table.specs.Nodes.{without_foreign, Enters, EntersWith, EntersAgain, EntersFirst, RegistersIf}
use Rattle.iox_negotiate_table.specs.Segments.{Opens, after_leave, closed_if, RegistersIn, after_foreign_leave, foreign_left_if}

-- the room is as it was, where nodes are in still
abbrev pub SameRoom : Segment → Segment → Type 0
SameRoom (Open before) (Open after) = after.max_nodes ≡ before.max_nodes
SameRoom (Emptied by) (Open after) = ⊥
SameRoom before (Emptied by) = Unit {0}

entered : (node : ℕ) (before after : Nodes) (answer : OpenSegmentAnswer) → Enters node before answer after
    → after.max_nodes ≡ before.max_nodes
entered node before after answer h = by_count (factories_of before node) h
  where
    more : (count : ℕ) (b : Bool) → EntersAgain count b node before answer after → after.max_nodes ≡ before.max_nodes
    more count true h = ap (λ n. n.max_nodes) h.1
    more count false h = ap (λ n. n.max_nodes) h.1

    first : (b : Bool) → EntersFirst b node before answer after → after.max_nodes ≡ before.max_nodes
    first true (inl h) = ap (λ n. n.max_nodes) h.1
    first true (inr h) = ap (λ n. n.max_nodes) h.1
    first false h = ap (λ n. n.max_nodes) h.1

    by_count : (found : Option ℕ) → EntersWith found node before answer after → after.max_nodes ≡ before.max_nodes
    by_count (Some count) h = more count (nat_eq count (2 ^ 64 - 1)) h
    by_count None h = first (nat_lt (count_in before) before.max_nodes) h

pub opens-room : (node : ℕ) (segment after : Segment) (answer : OpenSegmentAnswer) → Opens node segment answer after
    → SameRoom segment after
opens-room node (Open before) (Open after) answer h = entered node before after answer h
opens-room node (Open before) (Emptied by) answer h = absurd h
opens-room node (Emptied by) after answer h = subst (λ s. SameRoom (Emptied by) s) (sym h.1) tt

closed-room : (b : Bool) (node : Node) (before after : Nodes) → after.max_nodes ≡ before.max_nodes
    → SameRoom (Open before) (closed_if b node after)
closed-room true node before after same = tt
closed-room false node before after same = same

left-room : (node : ℕ) (nodes : Nodes) → (left node nodes).max_nodes ≡ nodes.max_nodes
left-room node nodes = by_count (factories_of nodes node)
  where
    less : (count : ℕ) (b : Bool) → (cond b (with_factories node (count - 1) nodes) (without_node node nodes)).max_nodes ≡ nodes.max_nodes
    less count true = refl
    less count false = refl

    by_count : (found : Option ℕ) → (less_one nodes node found).max_nodes ≡ nodes.max_nodes
    by_count (Some count) = less count (nat_lt 1 count)
    by_count None = refl

pub leave-room : (node : ℕ) (segment : Segment) → SameRoom segment (after_leave node segment)
leave-room node (Open nodes) = closed-room (nat_eq (count_in (left node nodes)) 0) _ nodes (left node nodes) (left-room node nodes)
leave-room node (Emptied by) = tt

registered : (by : ℕ) (nodes after : Nodes) (fits : Bool) (result : Result (Unit {0}) AllocError)
    → RegistersIf fits by nodes result after → after.max_nodes ≡ nodes.max_nodes
registered by nodes after true (Ok done) h = ap (λ n. n.max_nodes) h
registered by nodes after true (Err lacking) h = ap (λ n. n.max_nodes) h
registered by nodes after false (Ok done) h = ap (λ n. n.max_nodes) h
registered by nodes after false (Err lacking) h = absurd h

pub register-room : (by : ℕ) (segment after : Segment) (result : Result (Unit {0}) AllocError) → RegistersIn by segment result after
    → SameRoom segment after
register-room by (Open nodes) (Open after) result h
    = registered by nodes after (not (has_foreign by nodes) && nat_lt (count_in nodes) nodes.max_nodes) result h
register-room by (Open nodes) (Emptied other) result h = absurd h
register-room by (Emptied other) after result h = subst (λ s. SameRoom (Emptied other) s) (sym h.1) tt

pub foreign-leave-room : (by : ℕ) (segment : Segment) → SameRoom segment (after_foreign_leave by segment)
foreign-leave-room by (Open nodes) = there (has_foreign by nodes)
  where
    there : (b : Bool) → SameRoom (Open nodes) (foreign_left_if b by nodes)
    there true = closed-room (nat_eq (count_in (without_foreign by nodes)) 0) _ nodes (without_foreign by nodes) refl
    there false = refl
foreign-leave-room by (Emptied other) = tt

-- ---- the room that a line tells

pub same-data : (one other : Data) → Some one ≡ Some other → one ≡ other
same-data one other e = cc

pub same-natural : (one other : ℕ) → Some (natural one) ≡ Some (natural other) → one ≡ other
same-natural one other e = cc

told : (version : Version) (settings : Settings)
    → get (codes "max_nodes") (settings_tree version settings) ≡ Some (natural (max_nodes_of settings))
told version (RequestResponse c) = refl
told One (PublishSubscribe c) = refl
told Two (PublishSubscribe c) = refl
told version (Event c) = refl

settings-told : (version : Version) (a : Agreement) → get (codes "settings") (tree version a) ≡ Some (settings_tree version a.settings)
settings-told version a = refl

-- bytes that spell an agreement are read as its tree of their version
spelled-read : (a : Agreement) (bytes : List ℕ) → IsWithinLimits a → (spells : Spells bytes a) → read bytes ≡ Some (tree spells.0 a)
spelled-read a bytes within spells = ap (λ l. read l) spells.2 ∙ line-read spells.0 a within

-- two agreements with one line have one tree
pub spelled-trees : (one other : Agreement) (bytes text : List ℕ) → IsWithinLimits one → IsWithinLimits other
    → (first : Spells bytes one) → (second : Spells text other) → bytes ≡ text → tree first.0 one ≡ tree second.0 other
spelled-trees one other bytes text within within' first second same =
    same-data (tree first.0 one) (tree second.0 other)
    (sym (spelled-read one bytes within first) ∙ ap (λ l. read l) same ∙ spelled-read other text within' second)

-- and the same number of nodes
pub line-room : (one other : Agreement) (bytes text : List ℕ) → IsWithinLimits one → IsWithinLimits other → Spells bytes one
    → Spells text other → bytes ≡ text → max_nodes_of one.settings ≡ max_nodes_of other.settings
line-room one other bytes text within within' first second same =
    let trees = spelled-trees one other bytes text within within' first second same in
    let settings = same-data (settings_tree first.0 one.settings) (settings_tree second.0 other.settings)
    (sym (settings-told first.0 one) ∙ ap (λ t. get (codes "settings") t) trees ∙ settings-told second.0 other) in
    same-natural (max_nodes_of one.settings) (max_nodes_of other.settings)
    (sym (told first.0 one.settings) ∙ ap (λ t. get (codes "max_nodes") t) settings ∙ told second.0 other.settings)
