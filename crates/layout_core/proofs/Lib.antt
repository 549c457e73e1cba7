mod KeptLast
mod LaidWaves
mod Placed
mod Roots
