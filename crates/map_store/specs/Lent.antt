-- A store as a call reads it: what it means, its room, and what it is made from. Assumes nothing.
use Rattle.std.specs.Prelude.{◌≡◌, true, false, ℕ, length, Result, MatchResult}
use Rattle.answer.specs.declared.Refusal.{Refusal}
use Rattle.answer.specs.declared.Refusal.TheVariants.{BadShape}
use Rattle.slot.specs.Places.{places_of}
use Rattle.versions.specs.Versions.{Columns}
use Rattle.versions.specs.Stamps.{versions_in}
use Rattle.map_store.specs.declared.MapHead.{MapHead}
use Rattle.map_store.specs.declared.store.Store.{Store as Lent}
use Rattle.map_store.specs.Meaning.{MapStore}
use Rattle.map_store.specs.Shape.{lengths, is_shaped, room_of}

-- what it means
abbrev pub meant : Lent → MapStore
meant l =
    let h = l.head.now in
    record { low = h.low; last = h.last; next = h.next; places = places_of h.slots; versions = versions_in l.stamps l.values.now l.marks.now }

-- how many versions its columns have room for
abbrev pub room_in : Lent → ℕ
room_in l = room_of (length l.stamps.keys.now)

-- a store that is made of a head and columns of good shape
pub record MadeOf (h : MapHead) (cs : Columns) (l : Lent) : Type 0 where
  pub shaped : is_shaped h (lengths cs) ≡ true
  pub head : l.head.now ≡ h
  pub used : l.stamps.used ≡ h.used
  pub keys : l.stamps.keys.now ≡ cs.keys
  pub times : l.stamps.times.now ≡ cs.times
  pub values : l.values.now ≡ cs.values
  pub marks : l.marks.now ≡ cs.marks

-- a head and columns of bad shape make none
pub record Misshapen (h : MapHead) (cs : Columns) (e : Refusal) : Type 0 where
  pub shaped : is_shaped h (lengths cs) ≡ false
  pub refusal : e ≡ BadShape

-- a store where the shape is good, refused for its shape where it is bad
abbrev pub Opened : MapHead → Columns → Result Lent Refusal → Type 0
Opened h cs r = MatchResult r (MadeOf h cs) (Misshapen h cs)
