-- What the library was built with: the limits of section 2 and the numbers of section 6. Assumes nothing.
use Rattle.std.specs.Prelude.{◌*◌}
use Rattle.rules.specs.Limits.{most_running, most_keys, most_rows, most_versions, most_records}
use Rattle.rules.specs.Kinds.{record_size}
use Rattle.answer.specs.declared.Refusal.TheVariants.{BadShape, UnknownTransaction, BadKey, TooOld, Future, TooMany, NoNumbers, KeysFull, Held, NotLater, Conflict, NoRoom, BadRecord}
use Rattle.answer.specs.Reply.{number_of}
use Rattle.registers.specs.declared.about.Limits.{Limits}
use Rattle.registers.specs.declared.about.Numbers.{Numbers}

-- the limits; the last refusal has the greatest number
abbrev pub limits : Limits
limits =
    record {
      layout = 2;
      running = most_running;
      keys = most_keys;
      base_rows = most_rows;
      version_rows = most_versions;
      journal_bytes = most_records * record_size;
      record_bytes = record_size;
      refusals = number_of (BadRecord 0);
    }

-- the number of each refusal
abbrev pub numbers : Numbers
numbers =
    record {
      bad_shape = number_of BadShape;
      unknown_transaction = number_of UnknownTransaction;
      bad_key = number_of BadKey;
      too_old = number_of TooOld;
      future = number_of Future;
      too_many = number_of TooMany;
      no_numbers = number_of NoNumbers;
      keys_full = number_of KeysFull;
      held = number_of Held;
      not_later = number_of NotLater;
      conflict = number_of Conflict;
      no_room = number_of NoRoom;
      bad_record = number_of (BadRecord 0);
    }
