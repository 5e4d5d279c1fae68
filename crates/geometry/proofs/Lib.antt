mod Magnitude
