-- What a record passed that recovery's walk accepts. Assumes nothing.
use Rattle.std.specs.Prelude.{◌≡◌, ℕ, true, ◌&&◌, List}
use Rattle.rules.specs.declared.Record.{Record}
use Rattle.rules.specs.Bools.{and_left, and_right}
use Rattle.rules.specs.Recovery.{formed as formed_in, numbered as numbered_in, timely as timely_in, limited as limited_in, clear as clear_in, judge}

-- every test of section 5
pub record Judged (low : ℕ) (older : List Record) (r : Record) : Type 0 where
  pub formed : formed_in r ≡ true
  pub numbered : numbered_in older r ≡ true
  pub timely : timely_in low older r ≡ true
  pub limited : limited_in older r ≡ true
  pub clear : clear_in older r ≡ true

pub judged : (low : ℕ) (older : List Record) (r : Record) → judge low older r ≡ true → Judged low older r
judged low older r h =
    let b = and_right (formed_in r) (numbered_in older r && (timely_in low older r && (limited_in older r && clear_in older r))) h in
    let c = and_right (numbered_in older r) (timely_in low older r && (limited_in older r && clear_in older r)) b in
    let d = and_right (timely_in low older r) (limited_in older r && clear_in older r) c in
    record {
      formed = and_left (formed_in r) (numbered_in older r && (timely_in low older r && (limited_in older r && clear_in older r))) h;
      numbered = and_left (numbered_in older r) (timely_in low older r && (limited_in older r && clear_in older r)) b;
      timely = and_left (timely_in low older r) (limited_in older r && clear_in older r) c;
      limited = and_left (limited_in older r) (clear_in older r) d;
      clear = and_right (limited_in older r) (clear_in older r) d;
    }
