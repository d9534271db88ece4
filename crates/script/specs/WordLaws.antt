-- A word tells again which letters it was told by, and is told from any other. Assumes nothing.
use Rattle.std.specs.Prelude.{◌≡◌, refl, ℕ, true, cond, ◌==◌}
use Rattle.std.proofs.Common.{sym, ap, ◌∙◌, eq-eqb, eqb-true}
use Rattle.rules.specs.Bools.{split, not_both}
use Rattle.script.specs.declared.line.Word.{Word}
use Rattle.script.specs.declared.line.Word.TheVariants as words
use Rattle.script.specs.Line.{spelling, word_of, is_word}

-- the number of a word's last three letters
abbrev pub letters_of : Word → ℕ
letters_of words.Missing = 0
letters_of words.Begin = spelling 103 105 110
letters_of words.Assign = spelling 105 103 110
letters_of words.Add = spelling 97 100 100
letters_of words.Abort = spelling 111 114 116
letters_of words.Commit = spelling 109 105 116
letters_of words.Read = spelling 101 97 100
letters_of words.Lookup = spelling 107 117 112
letters_of words.List = spelling 105 115 116
letters_of words.Checkpoint = spelling 105 110 116
letters_of words.Recover = spelling 118 101 114
letters_of words.Store = spelling 111 114 101
letters_of words.Fill = spelling 105 108 108
letters_of words.Each = spelling 97 99 104
letters_of words.Again = spelling 97 105 110
letters_of words.When = spelling 104 101 110
letters_of words.Both = spelling 111 116 104
letters_of words.Journal = spelling 110 97 108
letters_of words.Map = spelling 109 97 112
letters_of words.Single = spelling 103 108 101
letters_of words.Narrow = spelling 114 111 119
letters_of words.Long = spelling 111 110 103
letters_of (words.Other w) = w

-- a test of the letters more: a word that they spell, or what else they are
one_more : (w n : ℕ) (word others : Word) → letters_of word ≡ n → letters_of others ≡ w → letters_of (cond (w == n) word others) ≡ w
one_more w n word others e f =
    split (w == n)
    (λ q. rw q (e ∙ sym (eqb-true w n q)))
    (λ q. rw q f)

pub word_letters : (w : ℕ) → letters_of (word_of w) ≡ w
unfolding word_of
word_letters w =
    (one_more w 0 words.Missing _ refl
    (one_more w (spelling 103 105 110) words.Begin _ refl
    (one_more w (spelling 105 103 110) words.Assign _ refl
    (one_more w (spelling 97 100 100) words.Add _ refl
    (one_more w (spelling 111 114 116) words.Abort _ refl
    (one_more w (spelling 109 105 116) words.Commit _ refl
    (one_more w (spelling 101 97 100) words.Read _ refl
    (one_more w (spelling 107 117 112) words.Lookup _ refl
    (one_more w (spelling 105 115 116) words.List _ refl
    (one_more w (spelling 105 110 116) words.Checkpoint _ refl
    (one_more w (spelling 118 101 114) words.Recover _ refl
    (one_more w (spelling 111 114 101) words.Store _ refl
    (one_more w (spelling 105 108 108) words.Fill _ refl
    (one_more w (spelling 97 99 104) words.Each _ refl
    (one_more w (spelling 97 105 110) words.Again _ refl
    (one_more w (spelling 104 101 110) words.When _ refl
    (one_more w (spelling 111 116 104) words.Both _ refl
    (one_more w (spelling 110 97 108) words.Journal _ refl
    (one_more w (spelling 109 97 112) words.Map _ refl
    (one_more w (spelling 103 108 101) words.Single _ refl
    (one_more w (spelling 114 111 119) words.Narrow _ refl
    (one_more w (spelling 111 110 103) words.Long _ refl
    refl))))))))))))))))))))))

-- unlike letters are told as unlike words
pub word_only : (v w : ℕ) → word_of v ≡ word_of w → v ≡ w
word_only v w e = sym (word_letters v) ∙ ap letters_of e ∙ word_letters w

-- a word is itself, and no other
pub is_itself : (w : Word) → is_word w w ≡ true
is_itself (words.Other n) = eq-eqb n n refl
is_itself _ = refl

pub is_no_other : (v w : Word) → is_word v w ≡ true → v ≡ w
is_no_other words.Missing words.Missing e = refl
is_no_other words.Begin words.Begin e = refl
is_no_other words.Assign words.Assign e = refl
is_no_other words.Add words.Add e = refl
is_no_other words.Abort words.Abort e = refl
is_no_other words.Commit words.Commit e = refl
is_no_other words.Read words.Read e = refl
is_no_other words.Lookup words.Lookup e = refl
is_no_other words.List words.List e = refl
is_no_other words.Checkpoint words.Checkpoint e = refl
is_no_other words.Recover words.Recover e = refl
is_no_other words.Store words.Store e = refl
is_no_other words.Fill words.Fill e = refl
is_no_other words.Each words.Each e = refl
is_no_other words.Again words.Again e = refl
is_no_other words.When words.When e = refl
is_no_other words.Both words.Both e = refl
is_no_other words.Journal words.Journal e = refl
is_no_other words.Map words.Map e = refl
is_no_other words.Single words.Single e = refl
is_no_other words.Narrow words.Narrow e = refl
is_no_other words.Long words.Long e = refl
is_no_other (words.Other m) (words.Other n) e = ap words.Other (eqb-true m n e)
is_no_other _ _ e = not_both _ e refl
