-- Each word is another than those before it, and the first five are those of the options that wait for a value.
use Rattle.std.proofs.Common.{false, true}
use Rattle.asking.specs.Words.{valued}
use Rattle.asking.proofs.Saying.{told}
use Rattle.asking.proofs.reading.Setting.said_by.Goals as goal

pub returns-then-eq : goal.returns-then-eq
unfolding valued
returns-then-eq c = rw (told _ true _ _ c.as_slice.ensures c.if-eq.ensures)

pub returns-then-eq-2 : goal.returns-then-eq-2
unfolding valued
returns-then-eq-2 c = rw (told _ false _ _ c.as_slice.ensures c.if-eq.ensures, told _ true _ _ c.as_slice-else-eq.ensures c.if-eq-2.ensures)

pub returns-then-eq-3 : goal.returns-then-eq-3
unfolding valued
returns-then-eq-3 c = rw (told _ false _ _ c.as_slice.ensures c.if-eq.ensures, told _ false _ _ c.as_slice-else-eq.ensures c.if-eq-2.ensures, told _ true _ _ c.as_slice-else-eq-2.ensures c.if-eq-3.ensures)

pub returns-then-eq-4 : goal.returns-then-eq-4
unfolding valued
returns-then-eq-4 c = rw (told _ false _ _ c.as_slice.ensures c.if-eq.ensures, told _ false _ _ c.as_slice-else-eq.ensures c.if-eq-2.ensures, told _ false _ _ c.as_slice-else-eq-2.ensures c.if-eq-3.ensures, told _ true _ _ c.as_slice-else-eq-3.ensures c.if-eq-4.ensures)

pub returns-then-eq-5 : goal.returns-then-eq-5
unfolding valued
returns-then-eq-5 c = rw (told _ false _ _ c.as_slice.ensures c.if-eq.ensures, told _ false _ _ c.as_slice-else-eq.ensures c.if-eq-2.ensures, told _ false _ _ c.as_slice-else-eq-2.ensures c.if-eq-3.ensures, told _ false _ _ c.as_slice-else-eq-3.ensures c.if-eq-4.ensures, told _ true _ _ c.as_slice-else-eq-4.ensures c.if-eq-5.ensures)

pub returns-then-eq-6 : goal.returns-then-eq-6
unfolding valued
returns-then-eq-6 c = rw (told _ false _ _ c.as_slice.ensures c.if-eq.ensures, told _ false _ _ c.as_slice-else-eq.ensures c.if-eq-2.ensures, told _ false _ _ c.as_slice-else-eq-2.ensures c.if-eq-3.ensures, told _ false _ _ c.as_slice-else-eq-3.ensures c.if-eq-4.ensures, told _ false _ _ c.as_slice-else-eq-4.ensures c.if-eq-5.ensures)

pub returns-then-eq-7 : goal.returns-then-eq-7
unfolding valued
returns-then-eq-7 c = rw (told _ false _ _ c.as_slice.ensures c.if-eq.ensures, told _ false _ _ c.as_slice-else-eq.ensures c.if-eq-2.ensures, told _ false _ _ c.as_slice-else-eq-2.ensures c.if-eq-3.ensures, told _ false _ _ c.as_slice-else-eq-3.ensures c.if-eq-4.ensures, told _ false _ _ c.as_slice-else-eq-4.ensures c.if-eq-5.ensures)

pub returns-then-eq-8 : goal.returns-then-eq-8
unfolding valued
returns-then-eq-8 c = rw (told _ false _ _ c.as_slice.ensures c.if-eq.ensures, told _ false _ _ c.as_slice-else-eq.ensures c.if-eq-2.ensures, told _ false _ _ c.as_slice-else-eq-2.ensures c.if-eq-3.ensures, told _ false _ _ c.as_slice-else-eq-3.ensures c.if-eq-4.ensures, told _ false _ _ c.as_slice-else-eq-4.ensures c.if-eq-5.ensures)

pub returns-else-eq-8 : goal.returns-else-eq-8
unfolding valued
returns-else-eq-8 c = rw (told _ false _ _ c.as_slice.ensures c.if-eq.ensures, told _ false _ _ c.as_slice-else-eq.ensures c.if-eq-2.ensures, told _ false _ _ c.as_slice-else-eq-2.ensures c.if-eq-3.ensures, told _ false _ _ c.as_slice-else-eq-3.ensures c.if-eq-4.ensures, told _ false _ _ c.as_slice-else-eq-4.ensures c.if-eq-5.ensures)
