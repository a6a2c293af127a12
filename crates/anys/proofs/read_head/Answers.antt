-- `anys::read_head` meets its contract, a tag at a time.
use mathlib.Core.Path.{ap}
use borrow.Author.Tests.{le-leb, lt-leb, ne_eqb}
use Rattle.anys.specs.declared.Head.TheVariants.{Alone}
use Rattle.anys.specs.Any.{tagged, head_at}
use Rattle.anys.proofs.read_head.Goals as goal

pub returns-then-update-at : goal.returns-then-update-at
unfolding head_at
returns-then-update-at c = rw (le-leb _ _ c.if-update-at.true)

pub returns-in-127 : goal.returns-in-127
unfolding head_at tagged
returns-in-127 c = rw (lt-leb _ _ c.if-update-at.false, c.in-127.is)

pub returns-in-126 : goal.returns-in-126
unfolding head_at tagged
returns-in-126 c = rw (lt-leb _ _ c.if-update-at.false, c.in-126.is)

pub returns-in-125 : goal.returns-in-125
unfolding head_at tagged
returns-in-125 c = rw (lt-leb _ _ c.if-update-at.false, c.in-125.is) (ap Alone c.skip_signed.ensures)

pub returns-in-124 : goal.returns-in-124
unfolding head_at tagged
returns-in-124 c = rw (lt-leb _ _ c.if-update-at.false, c.in-124.is) (ap Alone c.skip_bytes.ensures)

pub returns-in-123 : goal.returns-in-123
unfolding head_at tagged
returns-in-123 c = rw (lt-leb _ _ c.if-update-at.false, c.in-123.is) (ap Alone c.skip_bytes-in-123.ensures)

pub returns-in-122 : goal.returns-in-122
unfolding head_at tagged
returns-in-122 c = rw (lt-leb _ _ c.if-update-at.false, c.in-122.is) (ap Alone c.skip_bytes-in-122.ensures)

pub returns-in-121 : goal.returns-in-121
unfolding head_at tagged
returns-in-121 c = rw (lt-leb _ _ c.if-update-at.false, c.in-121.is)

pub returns-in-120 : goal.returns-in-120
unfolding head_at tagged
returns-in-120 c = rw (lt-leb _ _ c.if-update-at.false, c.in-120.is)

pub returns-in-119 : goal.returns-in-119
unfolding head_at tagged
returns-in-119 c = rw (lt-leb _ _ c.if-update-at.false, c.in-119.is) (ap Alone c.skip_text.ensures)

pub returns-in-118 : goal.returns-in-118
unfolding head_at tagged
returns-in-118 c = rw (lt-leb _ _ c.if-update-at.false, c.in-118.is)

pub returns-in-117 : goal.returns-in-117
unfolding head_at tagged
returns-in-117 c = rw (lt-leb _ _ c.if-update-at.false, c.in-117.is)

pub returns-in-116 : goal.returns-in-116
unfolding head_at tagged
returns-in-116 c = rw (lt-leb _ _ c.if-update-at.false, c.in-116.is) (ap Alone c.skip_buf.ensures)

pub returns-in_default : goal.returns-in_default
unfolding head_at tagged
returns-in_default c = let r = c.in_default.in_default-own.rest in
    rw (lt-leb _ _ c.if-update-at.false, ne_eqb _ 127 r.0.0.0.0.0.0.0.0.0.0.0.1, ne_eqb _ 126 r.0.0.0.0.0.0.0.0.0.0.1, ne_eqb _ 125 r.0.0.0.0.0.0.0.0.0.1, ne_eqb _ 124 r.0.0.0.0.0.0.0.0.1, ne_eqb _ 123 r.0.0.0.0.0.0.0.1, ne_eqb _ 122 r.0.0.0.0.0.0.1, ne_eqb _ 121 r.0.0.0.0.0.1, ne_eqb _ 120 r.0.0.0.0.1, ne_eqb _ 119 r.0.0.0.1, ne_eqb _ 118 r.0.0.1, ne_eqb _ 117 r.0.1, ne_eqb _ 116 r.1)
