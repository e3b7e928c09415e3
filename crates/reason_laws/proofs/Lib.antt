mod Told
mod Fitting
mod Trees
mod Counting
mod Once
mod Whole
