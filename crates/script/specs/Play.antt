-- Where a run of the script stands: what a line says of the lines behind it. Assumes nothing.
use Rattle.std.specs.Prelude.{ℕ, ◌+◌, ◌%◌, ◌^◌, Bool, false, cond, not, ◌&&◌, ◌||◌, ltb, nat_lt}
use Rattle.script.specs.declared.line.Call.{Call}
use Rattle.script.specs.declared.play.Play.{Play}
use Rattle.script.specs.declared.line.Word.{Word}
use Rattle.script.specs.declared.line.Word.TheVariants.{Each, Again, When, Both, Journal, Map, Missing}
use Rattle.script.specs.Line.{is_word, names_stores}

-- nothing is played yet
abbrev pub started : Word → Play
started word = record { store = word; at = 0; first = 0; x = 0; last = 0; upto = 0; passed = false; on = false; asks = false }

-- behind a line that ends at a place
abbrev pub passed_line : Play → ℕ → Play
passed_line p stop =
    record {
      store = p.store;
      at = (stop + 1) % 2 ^ 64;
      first = p.first;
      x = p.x;
      last = p.last;
      upto = p.upto;
      passed = p.passed;
      on = p.on;
      asks = false;
    }

-- a block starts, for each x from a to b
abbrev pub each : Play → ℕ → ℕ → Play
each p a b = record { store = p.store; at = p.at; first = p.at; x = a; last = b; upto = b; passed = p.passed; on = p.on; asks = p.asks }

-- lines for each x from a to b
abbrev pub when : Play → ℕ → ℕ → Play
when p a b =
    record {
      store = p.store;
      at = p.at;
      first = p.first;
      x = p.x;
      last = p.last;
      upto = b;
      passed = nat_lt p.x a || nat_lt b p.x;
      on = p.on;
      asks = p.asks;
    }

-- a block ends, and is run again up to its last x
abbrev pub again : Play → Play
again p =
    let more = ltb p.x p.last in
    record {
      store = p.store;
      at = cond more p.first p.at;
      first = p.first;
      x = cond more ((p.x + 1) % 2 ^ 64) p.x;
      last = p.last;
      upto = p.last;
      passed = false;
      on = p.on;
      asks = p.asks;
    }

-- whether lines behind the word of some stores are for a store
abbrev pub is_for : Word → Word → Bool
is_for word store = is_word store word || (is_word word Both && (is_word store Journal || is_word store Map))

abbrev pub meant : Play → Word → Play
meant p word =
    record {
      store = p.store;
      at = p.at;
      first = p.first;
      x = p.x;
      last = p.last;
      upto = p.upto;
      passed = p.passed;
      on = is_for word p.store;
      asks = p.asks;
    }

-- a word that says nothing of other lines
abbrev pub asking : Play → Word → Play
asking p word =
    record {
      store = p.store;
      at = p.at;
      first = p.first;
      x = p.x;
      last = p.last;
      upto = p.upto;
      passed = p.passed;
      on = p.on;
      asks = (p.on && not p.passed) && not (is_word word Missing);
    }

-- after a line: its word is each, when or again, names stores, or asks something
abbrev pub after : Play → Call → ℕ → Play
after p call stop =
    let w = call.word in
    let q = passed_line p stop in
    cond (is_word w Each) (each q call.a call.b)
    (cond (is_word w When) (when q call.a call.b)
    (cond (is_word w Again) (again q)
    (cond (names_stores w) (meant q w)
    (asking q w))))
