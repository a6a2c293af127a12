-- Where the reading of form 2 stands: the next byte of the rest, nine columns, each with its place and where it ends in the update, and the keys that
-- were read, in the order in which they came.
use Rattle.std.specs.Prelude.{ℕ, List}
use Rattle.text.specs.declared.Part.{Part}
use Rattle.columns.specs.declared.number.Place as number
use Rattle.columns.specs.declared.difference.Place as difference
use Rattle.columns.specs.declared.byte.Place as byte
use Rattle.string.specs.declared.Place as string

-- how many keys form 2 may have
abbrev pub max_keys : ℕ
max_keys = 256

pub record Numbers : Type 0 where
  pub place : number.Place
  pub to : ℕ

pub record Differences : Type 0 where
  pub place : difference.Place
  pub to : ℕ

pub record Octets : Type 0 where
  pub place : byte.Place
  pub to : ℕ

pub record Texts : Type 0 where
  pub place : string.Place
  pub to : ℕ

pub record State : Type 0 where
  pub at : ℕ
  pub key : Differences
  pub client : Numbers
  pub left : Differences
  pub right : Differences
  pub info : Octets
  pub text : Texts
  pub parent : Octets
  pub types : Numbers
  pub len : Numbers
  pub keys : List Part

-- ---- a state by its fields, and with one of them put

abbrev pub state : ℕ → Differences → Numbers → Differences → Differences → Octets → Texts → Octets → Numbers → Numbers → List Part → State
state e k c l r i x p t n ks =
    record { at = e; key = k; client = c; left = l; right = r; info = i; text = x; parent = p; types = t; len = n; keys = ks }

abbrev pub moved_to : State → ℕ → State
moved_to s e = state e s.key s.client s.left s.right s.info s.text s.parent s.types s.len s.keys

abbrev pub key_moved : Differences → State → State
key_moved c s = state s.at c s.client s.left s.right s.info s.text s.parent s.types s.len s.keys

abbrev pub client_moved : Numbers → State → State
client_moved c s = state s.at s.key c s.left s.right s.info s.text s.parent s.types s.len s.keys

abbrev pub left_moved : Differences → State → State
left_moved c s = state s.at s.key s.client c s.right s.info s.text s.parent s.types s.len s.keys

abbrev pub right_moved : Differences → State → State
right_moved c s = state s.at s.key s.client s.left c s.info s.text s.parent s.types s.len s.keys

abbrev pub info_moved : Octets → State → State
info_moved c s = state s.at s.key s.client s.left s.right c s.text s.parent s.types s.len s.keys

abbrev pub text_moved : Texts → State → State
text_moved c s = state s.at s.key s.client s.left s.right s.info c s.parent s.types s.len s.keys

abbrev pub parent_moved : Octets → State → State
parent_moved c s = state s.at s.key s.client s.left s.right s.info s.text c s.types s.len s.keys

abbrev pub len_moved : Numbers → State → State
len_moved c s = state s.at s.key s.client s.left s.right s.info s.text s.parent s.types c s.keys

abbrev pub types_moved : Numbers → State → State
types_moved c s = state s.at s.key s.client s.left s.right s.info s.text s.parent c s.len s.keys

abbrev pub with_keys : List Part → State → State
with_keys ps s = state s.at s.key s.client s.left s.right s.info s.text s.parent s.types s.len ps
