-- Which kinds of access each port makes to which words.
use Rattle.iox_queues_steps.specs.declared.access.Word.{Word}
use Rattle.iox_queues_steps.specs.declared.access.Word.TheVariants.{Write, Read, Cell}
use Rattle.iox_lanes_base.specs.declared.words.word.ConnectionRing.{ConnectionRing}
use Rattle.iox_lanes_base.specs.declared.words.word.ConnectionRing.TheVariants.{Submission, Completion}
use Rattle.iox_lanes_base.specs.declared.words.word.SharedWord.{SharedWord}
use Rattle.iox_lanes_base.specs.declared.words.word.SharedWord.TheVariants.{Ring, Slot}
use Rattle.iox_lanes_base.specs.declared.words.access.SharedAccess.{SharedAccess}
use Rattle.iox_lanes_base.specs.declared.words.access.SharedAccess.TheVariants.{Load, Store, Exchange, Local}
use Rattle.iox_lanes_base.specs.Publishing.{publisher_next}
use Rattle.iox_lanes_base.specs.Subscribing.{subscriber_next}
use Rattle.iox_lanes_base.specs.declared.calls.publisher.PublisherCall.{PublisherCall}
use Rattle.iox_lanes_base.specs.declared.calls.subscriber.SubscriberCall.{SubscriberCall}

-- A publisher may load the word: it is a word of a ring.
abbrev pub PublisherLoads : SharedWord → Type 0
PublisherLoads (Ring connection ring word) = Unit {0}
PublisherLoads (Slot slot word) = ⊥

-- A publisher may store the word of this ring: cells and the write position of the submission ring, and the read position of the completion
-- ring.
abbrev pub PublisherStoresOf : ConnectionRing → Word → Type 0
PublisherStoresOf Submission Write = Unit {0}
PublisherStoresOf Submission Read = ⊥
PublisherStoresOf Submission (Cell cell) = Unit {0}
PublisherStoresOf Completion Write = ⊥
PublisherStoresOf Completion Read = Unit {0}
PublisherStoresOf Completion (Cell cell) = ⊥

-- A publisher may store the word.
abbrev pub PublisherStores : SharedWord → Type 0
PublisherStores (Ring connection ring word) = PublisherStoresOf ring word
PublisherStores (Slot slot word) = Unit {0}

-- The word of this ring may be exchanged: the read position of the submission ring.
abbrev pub ExchangedOf : ConnectionRing → Word → Type 0
ExchangedOf Submission Write = ⊥
ExchangedOf Submission Read = Unit {0}
ExchangedOf Submission (Cell cell) = ⊥
ExchangedOf Completion Write = ⊥
ExchangedOf Completion Read = ⊥
ExchangedOf Completion (Cell cell) = ⊥

-- The word may be exchanged.
abbrev pub Exchanged : SharedWord → Type 0
Exchanged (Ring connection ring word) = ExchangedOf ring word
Exchanged (Slot slot word) = ⊥

-- A publisher may make the access.
abbrev pub PublisherMay : SharedAccess → Type 0
PublisherMay (Load word) = PublisherLoads word
PublisherMay (Store word value) = PublisherStores word
PublisherMay (Exchange word old new) = Exchanged word
PublisherMay Local = Unit {0}

-- A subscriber may store the word of this ring: cells and the write position of the completion ring, and the read position of the
-- submission ring.
abbrev pub SubscriberStoresOf : ConnectionRing → Word → Type 0
SubscriberStoresOf Submission Write = ⊥
SubscriberStoresOf Submission Read = Unit {0}
SubscriberStoresOf Submission (Cell cell) = ⊥
SubscriberStoresOf Completion Write = Unit {0}
SubscriberStoresOf Completion Read = ⊥
SubscriberStoresOf Completion (Cell cell) = Unit {0}

-- A subscriber may store the word.
abbrev pub SubscriberStores : SharedWord → Type 0
SubscriberStores (Ring connection ring word) = SubscriberStoresOf ring word
SubscriberStores (Slot slot word) = ⊥

-- A subscriber may make the access.
abbrev pub SubscriberMay : SharedAccess → Type 0
SubscriberMay (Load word) = Unit {0}
SubscriberMay (Store word value) = SubscriberStores word
SubscriberMay (Exchange word old new) = Exchanged word
SubscriberMay Local = Unit {0}

-- Each step of a publisher's call makes an access that a publisher may make.
abbrev pub PublishersStay : Type 0
PublishersStay = (call : PublisherCall) → PublisherMay (publisher_next call)

-- Each step of a subscriber's call makes an access that a subscriber may make.
abbrev pub SubscribersStay : Type 0
SubscribersStay = (call : SubscriberCall) → SubscriberMay (subscriber_next call)
