-- What a row of marks and five numbers say of the grammar's stack: how the code holds what is still open.
use Rattle.std.specs.Prelude.{ℕ, suc, ◌+◌, ◌<◌, ◌≤◌, Bool, ◌&&◌, List, ◌≡◌, length, get_or, Result, Ok, Err}
use Rattle.meaning.specs.Types.{Ty}
use Rattle.meaning.specs.Signature.{shallow, nest, nests, all_nest, Stack, floor, open0, open1, in_arr, need_key, need_val, need_end, Step, to, bad, put}
use Rattle.signature.specs.declared.State.{State}
use Rattle.signature.specs.declared.Mark.{Mark}
use Rattle.signature.specs.declared.Mark.TheVariants.{Floor, Empty, Fields, Value, End, Key, Array}
use Rattle.meaning.specs.declared.Fault.{Fault}

-- the mark of what was opened last
abbrev pub mark : Stack → Mark
mark (floor ts) = Floor
mark (open0 k) = Empty
mark (open1 fs k) = Fields
mark (need_val f c k) = Value
mark (need_end f c e k) = End
mark (need_key f k) = Key
mark (in_arr k) = Array

unfoldable pub height : Stack → ℕ
height (floor ts) = 0
height (open0 k) = suc (height k)
height (open1 fs k) = suc (height k)
height (in_arr k) = suc (height k)
height (need_key f k) = suc (height k)
height (need_val f c k) = suc (height k)
height (need_end f c e k) = suc (height k)

-- the structs that stand open
unfoldable pub structs_in : Stack → ℕ
structs_in (floor ts) = 0
structs_in (open0 k) = suc (structs_in k)
structs_in (open1 fs k) = suc (structs_in k)
structs_in (in_arr k) = structs_in k
structs_in (need_key f k) = structs_in k
structs_in (need_val f c k) = structs_in k
structs_in (need_end f c e k) = structs_in k

-- the arrays that stand open: "A dict counts as one array level"
unfoldable pub arrays_in : Stack → ℕ
arrays_in (floor ts) = 0
arrays_in (open0 k) = arrays_in k
arrays_in (open1 fs k) = arrays_in k
arrays_in (in_arr k) = suc (arrays_in k)
arrays_in (need_key f k) = suc (arrays_in k)
arrays_in (need_val f c k) = suc (arrays_in k)
arrays_in (need_end f c e k) = suc (arrays_in k)

-- the whole types so far
unfoldable pub whole_in : Stack → ℕ
whole_in (floor ts) = length ts
whole_in (open0 k) = whole_in k
whole_in (open1 fs k) = whole_in k
whole_in (in_arr k) = whole_in k
whole_in (need_key f k) = whole_in k
whole_in (need_val f c k) = whole_in k
whole_in (need_end f c e k) = whole_in k

-- nothing that is read to its end lies too deep
unfoldable pub fine_in : Stack → Bool
fine_in (floor ts) = all_nest ts
fine_in (open0 k) = fine_in k
fine_in (open1 fs k) = fine_in k && nests fs (suc (structs_in k)) (arrays_in k)
fine_in (in_arr k) = fine_in k
fine_in (need_key f k) = fine_in k
fine_in (need_val f c k) = fine_in k
fine_in (need_end f c e k) = fine_in k && nest e (structs_in k) (suc (arrays_in k))

-- the marks of a stack stand in the row, from its first place on
unfoldable pub Held : Stack → List Mark → Type 0
Held (floor ts) m = get_or m 0 Floor ≡ Floor
Held (open0 k) m = (get_or m (suc (height k)) Floor ≡ Empty) × Held k m
Held (open1 fs k) m = (get_or m (suc (height k)) Floor ≡ Fields) × Held k m
Held (need_val f c k) m = (get_or m (suc (height k)) Floor ≡ Value) × Held k m
Held (need_end f c e k) m = (get_or m (suc (height k)) Floor ≡ End) × Held k m
Held (need_key f k) m = (get_or m (suc (height k)) Floor ≡ Key) × Held k m
Held (in_arr k) m = (get_or m (suc (height k)) Floor ≡ Array) × Held k m

-- row and numbers are those of a stack
pub record Stands (k : Stack) (m : List Mark) (o : State) : Type 0 where
  pub long : length m ≡ 256
  pub held : Held k m
  pub top : o.top ≡ height k
  pub structs : o.structs ≡ structs_in k
  pub arrays : o.arrays ≡ arrays_in k
  pub types : o.types ≡ whole_in k

pub record Follows (k : Stack) (m : List Mark) (o : State) : Type 0 where
  pub stands : Stands k m o
  pub fine : o.fine ≡ fine_in k

-- those of some stack, with room for one more mark or type
pub record Ready (m : List Mark) (o : State) : Type 0 where
  pub stack : Stack
  pub follows : Follows stack m o
  pub room : o.top + o.types < 255

-- those of a stack that is about to take a whole type
pub record Takes (k : Stack) (t : Ty) (m : List Mark) (o : State) : Type 0 where
  pub stands : Stands k m o
  pub fine : o.fine ≡ (fine_in k && nest t (structs_in k) (arrays_in k))

-- a type of one code
abbrev pub Leaf : Ty → Type 0
Leaf t = (s a : ℕ) → nest t s a ≡ shallow s a

-- a step that puts a whole type
pub record Whole (x : Step) (m : List Mark) (o : State) : Type 0 where
  pub stack : Stack
  pub type : Ty
  pub is : x ≡ put stack type
  pub takes : Takes stack type m o

pub record WholeReady (m : List Mark) (o : State) : Type 0 where
  pub to : Step
  pub whole : Whole to m o
  pub room : o.top + o.types < 255

-- n is what the stack k becomes when one more mark stands on it, and the numbers are those of n but for the place of the mark
pub record Begins (k n : Stack) (v : Mark) (m : List Mark) (o : State) : Type 0 where
  pub long : length m ≡ 256
  pub held : Held k m
  pub marked : (l : List Mark) → Held k l → get_or l (suc (height k)) Floor ≡ v → Held n l
  pub higher : height n ≡ suc (height k)
  pub top : o.top ≡ height k
  pub structs : o.structs ≡ structs_in n
  pub arrays : o.arrays ≡ arrays_in n
  pub types : o.types ≡ whole_in n
  pub fine : o.fine ≡ fine_in n

pub record BeginsReady (v : Mark) (m : List Mark) (o : State) : Type 0 where
  pub stack : Stack
  pub next : Stack
  pub begins : Begins stack next v m o
  pub room : o.top + o.types < 255

-- an answer that goes on, at most n marks and types long
pub record Goes (k : Stack) (m : List Mark) (n : ℕ) (r : Result State Fault) : Type 0 where
  pub state : State
  pub is : r ≡ Ok state
  pub follows : Follows k m state
  pub small : state.top + state.types ≤ n

-- what an answer says of a step
abbrev pub After : Step → List Mark → ℕ → Result State Fault → Type 0
After (to k) m n r = Goes k m n r
After (bad f) m n r = r ≡ Err f
