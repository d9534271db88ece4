-- A line of the script: what each byte of it adds to what was read, and the line that was read at its end. Assumes nothing.
use Rattle.std.specs.Prelude.{ℕ, zero, suc, ◌+◌, ◌-◌, ◌*◌, ◌%◌, ◌^◌, Bool, true, false, cond, List, length, replicate, ◌==◌, nat_le, nat_lt, slice_index, slice_set}
use Rattle.script.specs.declared.line.Call.{Call}
use Rattle.script.specs.declared.line.Line.{Line}
use Rattle.script.specs.declared.line.Word.{Word}
use Rattle.script.specs.declared.line.Word.TheVariants as words
use Rattle.script.specs.contracts.line.WordPartialEq.TheImpl as same
use Rattle.script.specs.declared.line.Reading.{Reading}

-- how many numbers a line has
abbrev pub places : ℕ
places = 5

-- nothing is read yet
abbrev pub blank : Bool → Reading
blank is_named = record { word = 0; numbers = replicate places 0; place = 0; begun = false; named = is_named }

-- one letter more of the word, of which the last three count
abbrev pub spelt : Reading → ℕ → Reading
spelt r letter =
    cond (r.place == 0)
    (record { word = r.word % 65536 * 256 + letter; numbers = r.numbers; place = r.place; begun = r.begun; named = r.named })
    r

-- the number at the next place
abbrev pub noted : Reading → ℕ → Reading
noted r n = record { word = r.word; numbers = slice_set r.numbers (r.place % places) n; place = r.place; begun = true; named = r.named }

-- one digit more of it
abbrev pub counted : Reading → ℕ → Reading
counted r digit = noted r ((slice_index r.numbers (r.place % places) % 1844674407370955162 * 10 + digit) % 2 ^ 64)

-- another next place
abbrev pub moved_to : Reading → ℕ → Reading
moved_to r at = record { word = r.word; numbers = r.numbers; place = at; begun = false; named = r.named }

-- a number that has begun is read whole
abbrev pub closed : Reading → Reading
closed r = cond r.begun (moved_to r ((r.place + 1) % 2 ^ 64)) r

-- one byte more: a colon, x, `=`, `#`, what parts words and numbers, a digit, or a letter
abbrev pub taken : Reading → ℕ → ℕ → Reading
taken r byte x =
    cond (nat_le places r.place) r
    (cond (byte == 58) (blank true)
    (cond (byte == 120) (noted r x)
    (cond (byte == 61) (moved_to r 3)
    (cond (byte == 35) (moved_to r 6)
    (cond (nat_lt byte 48) (closed r)
    (cond (nat_le byte 57) (counted r (byte - 48))
    (spelt r byte)))))))

-- the number of a word: its last three letters
abbrev pub spelling : ℕ → ℕ → ℕ → ℕ
spelling a b c = (a * 256 + b) * 256 + c

-- the word that a number spells, of which 0 spells none: gin, ign, add, ort, mit, ead, kup, ist, int and ver are the calls, ore and ill what else is
-- done to a store, ach, ain and hen tell of the lines behind, and oth, nal, map, gle, row and ong the stores that they are for; any other word keeps
-- its number
unfoldable pub word_of : ℕ → Word
word_of w =
    cond (w == 0) words.Missing
    (cond (w == spelling 103 105 110) words.Begin
    (cond (w == spelling 105 103 110) words.Assign
    (cond (w == spelling 97 100 100) words.Add
    (cond (w == spelling 111 114 116) words.Abort
    (cond (w == spelling 109 105 116) words.Commit
    (cond (w == spelling 101 97 100) words.Read
    (cond (w == spelling 107 117 112) words.Lookup
    (cond (w == spelling 105 115 116) words.List
    (cond (w == spelling 105 110 116) words.Checkpoint
    (cond (w == spelling 118 101 114) words.Recover
    (cond (w == spelling 111 114 101) words.Store
    (cond (w == spelling 105 108 108) words.Fill
    (cond (w == spelling 97 99 104) words.Each
    (cond (w == spelling 97 105 110) words.Again
    (cond (w == spelling 104 101 110) words.When
    (cond (w == spelling 111 116 104) words.Both
    (cond (w == spelling 110 97 108) words.Journal
    (cond (w == spelling 109 97 112) words.Map
    (cond (w == spelling 103 108 101) words.Single
    (cond (w == spelling 114 111 119) words.Narrow
    (cond (w == spelling 111 110 103) words.Long
    (words.Other w))))))))))))))))))))))

-- both, journal, map, single, narrow, long
abbrev pub names_stores : Word → Bool
names_stores words.Both = true
names_stores words.Journal = true
names_stores words.Map = true
names_stores words.Single = true
names_stores words.Narrow = true
names_stores words.Long = true
names_stores _ = false

-- one word is another
abbrev pub is_word : Word → Word → Bool
is_word = (same.ghosts).eq

-- what was read asks: the numbers whole, and their last 32 bits
abbrev pub call_of : Reading → Call
call_of r =
    record {
      word = word_of r.word;
      a = slice_index r.numbers 0;
      b = slice_index r.numbers 1;
      c = slice_index r.numbers 2;
      n = slice_index r.numbers 0 % 4294967296;
      k = slice_index r.numbers 1 % 4294967296;
      v = slice_index r.numbers 2 % 4294967296;
    }

-- the line that was read, from a place of the script up to another
abbrev pub line_of : Reading → ℕ → ℕ → Line
line_of r start stop =
    record {
      call = call_of r;
      number = slice_index r.numbers 3;
      value = slice_index r.numbers 4;
      present = cond (r.place == places) 1 0;
      named = r.named;
      from = start;
      end = stop;
    }

-- byte by byte, up to the end of the line or of the script
abbrev pub read_on : List ℕ → ℕ → ℕ → Reading → ℕ → ℕ → Line
read_on script start x r i zero = line_of (closed r) start i
read_on script start x r i (suc left) =
    cond (slice_index script i == 10) (line_of (closed r) start i) (read_on script start x (taken r (slice_index script i) x) (i + 1) left)

-- the line that starts at a place, in which x stands for a number
unfoldable pub line_at : List ℕ → ℕ → ℕ → Line
line_at script start x = read_on script start x (blank false) start (length script - start)
